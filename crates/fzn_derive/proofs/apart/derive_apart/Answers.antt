use Rattle.std.proofs.Common.{IsTrue, inr, rules}
use Rattle.std.proofs.lemmas.Result.{err_from_is_err_and}
use Rattle.fzn_derive.proofs.ApartLemmas.{pairs-fault}
use Rattle.fzn_derive.proofs.apart.derive_apart.Goals as goal

pub returns-in_err-tell_apart-clause-fault : goal.returns-in_err-tell_apart-clause-fault
returns-in_err-tell_apart-clause-fault c =
    let p = err_from_is_err_and c.from_residual.result c.from_residual.ensures.1 in
    let variables : IsTrue c.are_variables.result = search rules in
    let one_each : IsTrue c.has_one_for_each_two.result = search rules in
    rw (p.1, p.2)
    (inr (pairs-fault c.args.given.now c.args.count c.args.variables.now c.args.ids.now c.in_err-tell_apart.field-0.0 (c.are_variables.ensures.0 variables) (c.has_one_for_each_two.ensures.0 one_each) c.in_err-tell_apart.ensures.fault))
