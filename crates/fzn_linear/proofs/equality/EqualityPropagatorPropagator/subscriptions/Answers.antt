use Rattle.fzn_linear.proofs.HeardLemmas.{equality_heard}
use Rattle.fzn_linear.proofs.equality.EqualityPropagatorPropagator.subscriptions.Goals as goal

pub returns-clause-heard : goal.returns-clause-heard
returns-clause-heard c = equality_heard c.args.self.now c.subscriptions_of.result c.subscriptions_of.ensures
