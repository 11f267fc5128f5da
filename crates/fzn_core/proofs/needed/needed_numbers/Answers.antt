use Rattle.std.proofs.Common.{◌≡◌, ◌<◌, List, Bool, Ok, Err, length, subst, arith}
use Rattle.std.specs.Prelude.{Result, IfOk}
use Rattle.std.specs.List.{filter, range_with_len}
use Rattle.fzn_core.specs.Core.{IsNeeded}
use Rattle.fzn_core.specs.Marks.{mark_at}
use Rattle.fzn_core.proofs.MarksLemmas.{found-needed, found-rises}
use Rattle.fzn_core.proofs.needed.needed_numbers.Goals as goal

ok-then : {A E : Type 0} (r : Result A E) (P Q : A → Type 0) → IfOk r P → ((x : A) → P x → Q x) → IfOk r Q
ok-then (Ok x) P Q h f = f x h
ok-then (Err e) P Q h f = tt

pub returns-clause-needed : goal.returns-clause-needed
returns-clause-needed c =
    let own = c.args.own in
    let read = c.args.derivations.now in
    let numbers = c.args.numbers.now in
    let marks = c.in_ok-marks.marks.items in
    let inside : own < length marks = omega (arith, c.in_ok-marks.ensures.len) in
    ok-then c.marked_numbers.result _ _ c.marked_numbers.ensures
    (λ found is. found-needed own marks (IsNeeded own read numbers) found.items inside c.in_ok-marks.ensures.needed (subst (λ (ms : List Bool). found.items ≡ filter (mark_at ms) (range_with_len 1 own)) c.as_slice.ensures.value is))

pub returns-clause-rising : goal.returns-clause-rising
returns-clause-rising c = ok-then c.marked_numbers.result _ _ c.marked_numbers.ensures (λ found is. found-rises c.args.own c.as_slice.result.now found.items is)
