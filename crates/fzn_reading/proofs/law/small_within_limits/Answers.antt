use Rattle.fzn_reading.proofs.LimitLemmas.{small_within}
use Rattle.fzn_reading.proofs.law.small_within_limits.Goals as goal

pub returns : goal.returns
returns c = small_within
