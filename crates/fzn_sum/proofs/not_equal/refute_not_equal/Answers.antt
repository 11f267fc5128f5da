use Rattle.std.proofs.Common.{ℕ, List, Option, length, get_or, sym, subst, ℤ, pos, w64, of_z, to_z, All, IfNone}
use Rattle.std.proofs.lemmas.Int.{to_z-of_z}
use Rattle.std.proofs.lemmas.List.Elements.{All-get_or}
use Rattle.std.proofs.lemmas.Result.{IfOk-weaker}
use Rattle.fzn_domain.specs.declared.literal.Lit.{Lit}
use Rattle.fzn_values.specs.declared.term.Place.{Place}
use Rattle.fzn_values.specs.declared.term.Term.TheVariants.{Constant}
use Rattle.fzn_values.specs.Term.{IsPlace}
use Rattle.fzn_meaning.specs.declared.relation.Comparison.TheVariants.{NotEqual}
use Rattle.fzn_sum.specs.Pinned.{IsBarring, NoneIsBarred}
use Rattle.fzn_sum.specs.Refuted.{IsRefutation, LeavesSome, LeavesEach}
use Rattle.fzn_sum.proofs.PinLemmas.{barring_refutes}
use Rattle.fzn_sum.proofs.BarredLemmas.{only_open, leaves_open, none_barred_two, none_barred_settled, none_barred_open, none_then}
use Rattle.fzn_sum.proofs.not_equal.refute_not_equal.Goals as goal

pub returns-in_default-clause-none : goal.returns-in_default-clause-none
returns-in_default-clause-none c =
    let sets = c.args.trail.now.sets in
    let places = c.args.places.now in
    let fit = subst (λ (n : ℕ). All (IsPlace n) c.args.places.now) (sym c.len-entries.ensures.narrower.one_each) c.requires.places in
    IfOk-weaker c.conflict_not_equal.result (λ (found : Option (List Lit)). IfNone found (LeavesSome sets NotEqual places (to_z w64 (of_z w64 c.args.number)))) (λ (found : Option (List Lit)). IfNone found (LeavesEach sets NotEqual places c.args.number))
    (λ found none. none_then found _ _ (λ leaves.
    let some = subst (λ (z : ℤ). LeavesSome c.args.trail.now.sets NotEqual c.args.places.now z) (to_z-of_z w64 c.args.number c.ranges.number) leaves in
    (some, none_barred_settled sets places c.args.number fit c.in_default.ensures.none some)) none) c.conflict_not_equal.ensures.none

pub returns-in-Some-next_open-clause-none : goal.returns-in-Some-next_open-clause-none
returns-in-Some-next_open-clause-none c =
    let at : Place = record { coefficient = pos 0; term = Constant (pos 0) } in
    let first = c.in-Some.ensures.found in (
      leaves_open c.args.trail.now.sets c.args.places.now c.args.number c.in-Some.open at first.in_places (first.several at),
      none_barred_two c.args.trail.now.sets c.args.places.now c.args.number c.in-Some.open c.in-Some-next_open.field-0 at first c.in-Some-next_open.ensures.found,
    )

pub returns-in_default-barring-clause-none : goal.returns-in_default-barring-clause-none
returns-in_default-barring-clause-none c =
    let at : Place = record { coefficient = pos 0; term = Constant (pos 0) } in
    let first = c.in-Some.ensures.found in
    let sets = c.args.trail.now.sets in
    let places = c.args.places.now in
    let only = only_open sets places c.in-Some.open first c.in_default-next_open.ensures.none in
    let fit = subst (λ (n : ℕ). All (IsPlace n) c.args.places.now) (sym c.len-entries.ensures.narrower.one_each) c.requires.places in
    let none = subst (λ (z : ℤ). NoneIsBarred c.args.trail.now.sets c.args.places.now (get_or c.args.places.now c.in-Some.open at) z) (to_z-of_z w64 c.args.number c.ranges.number) c.in_default-barring.ensures.none in
    (leaves_open sets places c.args.number c.in-Some.open at first.in_places (first.several at), none_barred_open sets places c.args.number fit c.in-Some.open at only none)

pub returns-clause-found : goal.returns-clause-found
returns-clause-found c =
    let at : Place = record { coefficient = pos 0; term = Constant (pos 0) } in
    let first = c.in-Some.ensures.found in
    let barring = subst (λ (z : ℤ). IsBarring c.args.trail.now c.args.places.now (get_or c.args.places.now c.in-Some.open at) z c.in-Some-barring.lit) (to_z-of_z w64 c.args.number c.ranges.number) c.in-Some-barring.ensures.found in
    subst (λ (xs : List Lit). IsRefutation c.args.trail.now NotEqual c.args.places.now c.args.number xs) (sym c.in_ok-push.ensures.ok)
    (barring_refutes c.args.trail.now c.args.places.now c.args.number c.in_ok-clause.clause c.in-Some.open at c.in-Some-barring.lit first.in_places
    (All-get_or (IsPlace (length c.args.trail.now.declared)) c.args.places.now c.in-Some.open at first.in_places c.requires.places) barring c.in_ok-clause.ensures)
