use Rattle.fzn_builtin_rules.proofs.FormLemmas.{form-Meets}
use Rattle.fzn_builtin_rules.proofs.law.form_is_meant.Goals as goal

pub returns : goal.returns
returns c = form-Meets
