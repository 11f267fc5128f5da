use Rattle.fzn_linear.proofs.HeardLemmas.{answer_heard}
use Rattle.fzn_linear.proofs.sum.SumPropagatorPropagator.subscriptions.Goals as goal

pub returns-clause-heard : goal.returns-clause-heard
returns-clause-heard c = answer_heard c.args.self.now c.subscriptions_of.result c.subscriptions_of.ensures
