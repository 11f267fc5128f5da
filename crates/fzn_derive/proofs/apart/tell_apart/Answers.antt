use Rattle.std.proofs.Common.{List, ℕ, length, ap, subst, ◌∙◌}
use Rattle.std.specs.List.{All}
use Rattle.std.proofs.lemmas.List.{take_rest}
use Rattle.std.proofs.lemmas.Result.{err_from_is_err_and}
use Rattle.fzn_derive.specs.Apart.{pairs_cited, IsPairTold, IsPairsFault}
use Rattle.fzn_derive.proofs.FirstLemmas.{first_fault, later_fault, both_told, later_count}
use Rattle.fzn_derive.proofs.apart.tell_apart.Goals as goal

pub returns-in_err-tell_from_others-clause-fault : goal.returns-in_err-tell_from_others-clause-fault
returns-in_err-tell_from_others-clause-fault c =
    let fault = c.in_err-tell_from_others.field-0.0 in
    let p = err_from_is_err_and c.from_residual.result c.from_residual.ensures.1 in
    rw (p.1, p.2)
    (c.loop-first.invariant.fault fault (first_fault c.args.given.now c.loop-first.rest.now c.in-Some.first.now c.in-Some.others.now c.loop-first.left.now fault c.in-Some.ensures.cases c.loop-first.invariant.one_each c.in_err-tell_from_others.ensures.fault))

pub loop-first-preserved : goal.loop-first-preserved
loop-first-preserved c =
    let given = c.args.given.now in
    let rest = c.loop-first.rest.now in
    let x = c.in-Some.first.now in
    let ys = c.in-Some.others.now in
    let left = c.loop-first.left.now in
    let cases = c.in-Some.ensures.cases in
    let count = c.loop-first.invariant.one_each in
    let told = c.in_ok-tell_from_others.ensures.told in
    let behind = take_rest left (length ys) in
    record {
      one_each = ap length behind ∙ later_count rest x ys left cases count;
      told = λ h. c.loop-first.invariant.told (both_told given rest x ys left cases count told (subst (λ (ids : List ℕ). All (IsPairTold given) (pairs_cited ys ids)) behind h));
      fault = λ fault h. c.loop-first.invariant.fault fault (later_fault given rest x ys left fault cases count told (subst (λ (ids : List ℕ). IsPairsFault given (pairs_cited ys ids) fault) behind h));
    }
