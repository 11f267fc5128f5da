-- One clause after the other.
use Rattle.fzn_reduction.proofs.ForgetLemmas.{forgotten-nothing, forgotten-through}
use Rattle.fzn_reduction.proofs.forgetting.drop_idle.Goals as goal

pub loop-id-init : goal.loop-id-init
loop-id-init c trail flagged = forgotten-nothing c.args.clauses.now

pub loop-id-preserved : goal.loop-id-preserved
loop-id-preserved c trail flagged = forgotten-through (c.loop-id.invariant trail flagged) (c.drop_clause.ensures trail flagged)
