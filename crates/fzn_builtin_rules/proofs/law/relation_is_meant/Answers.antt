use Rattle.fzn_builtin_rules.proofs.ChoicesSound.{Relates-Meets}
use Rattle.fzn_builtin_rules.proofs.law.relation_is_meant.Goals as goal

pub returns : goal.returns
returns c = Relates-Meets
