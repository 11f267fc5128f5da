use Rattle.fzn_meaning.specs.Solutions.{declared_sets}
use Rattle.fzn_derive.proofs.TryingLemmas.{gives-made}
use Rattle.fzn_derive.proofs.deriver.Deriver.gives.Goals as goal

pub returns-clause-gives : goal.returns-clause-gives
returns-clause-gives c =
    gives-made c.args.given.now (declared_sets c.args.vars.now) c.args.derivation.now c.derive-outcome.result c.is_made.result
    c.derive-outcome.ensures.derived c.derive-outcome.ensures.fault c.is_made.ensures.made c.is_made.ensures.known
