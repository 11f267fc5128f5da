use Rattle.std.proofs.lemmas.Result.{err_from_is_err_and}
use Rattle.fzn_meaning.specs.Solutions.{declared_sets}
use Rattle.fzn_derive.proofs.ParityLaws.{sums-fault}
use Rattle.fzn_derive.proofs.parity.derive_parity.Goals as goal

pub returns-in_err-is_odd-clause-fault : goal.returns-in_err-is_odd-clause-fault
returns-in_err-is_odd-clause-fault c =
    let p = err_from_is_err_and c.from_residual.result c.from_residual.ensures.1 in
    rw (p.1, p.2) (sums-fault c.args.given.now (declared_sets c.args.vars.now) c.args.ids.now c.in_err-is_odd.field-0.0 c.in_err-is_odd.ensures.fault)
