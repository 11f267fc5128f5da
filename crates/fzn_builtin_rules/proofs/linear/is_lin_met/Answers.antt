use Rattle.std.proofs.Common.{length, subst, Option, IfSome}
use Rattle.fzn_builtin_rules.specs.Form.{Form, Fits}
use Rattle.fzn_builtin_rules.proofs.FitLemmas.{form_fits}
use Rattle.fzn_builtin_rules.proofs.linear.is_lin_met.Goals as goal

pub is_form_met-requires-clause-form : goal.is_form_met-requires-clause-form
is_form_met-requires-clause-form c =
    let count = length c.args.sets.now.present in
    subst (λ (f : Option Form). IfSome f (Fits count)) c.in-Some.ensures.found (form_fits count c.args.constraint.now c.requires.constraint)
