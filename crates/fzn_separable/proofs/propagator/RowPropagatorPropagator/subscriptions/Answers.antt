use Rattle.std.proofs.Common.{arith}
use Rattle.std.proofs.lemmas.Grind.{common_steps}
use Rattle.fzn_separable.proofs.HeardLemmas.{row_heard}
use Rattle.fzn_separable.proofs.propagator.RowPropagatorPropagator.subscriptions.Goals as goal

pub returns-clause-heard : goal.returns-clause-heard
returns-clause-heard c = λ constraint is. row_heard c.args.self.now.row c.loop-part.subscriptions constraint (grind (arith, common_steps)) is
