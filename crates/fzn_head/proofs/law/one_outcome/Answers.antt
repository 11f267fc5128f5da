use Rattle.fzn_head.proofs.OneOutcome.{one-outcome}
use Rattle.fzn_head.proofs.law.one_outcome.Goals as goal

pub returns : goal.returns
returns c = one-outcome
