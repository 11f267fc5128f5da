use Rattle.fzn_head.proofs.OutcomeLaws.{outcome-proper, outcome-exhausted}
use Rattle.fzn_head.proofs.law.outcome_is_true.Goals as goal

pub returns : goal.returns
returns c = record { proper = outcome-proper; exhausted = outcome-exhausted }
