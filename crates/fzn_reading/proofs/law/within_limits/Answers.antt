use Rattle.fzn_reading.proofs.LimitLemmas.{tree_within}
use Rattle.fzn_reading.proofs.law.within_limits.Goals as goal

pub returns : goal.returns
returns c = tree_within
