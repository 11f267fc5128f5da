use Rattle.std.proofs.Common.{◌≡◌, ◌∙◌, ℤ, Option, Some, None, IfSome}
use Rattle.fzn_meaning.specs.declared.constraint.Constraint.{Constraint}
use Rattle.fzn_builtin_rules.specs.Borrowed.{form_in}
use Rattle.fzn_builtin_rules.specs.Form.{Form, form_of}
use Rattle.fzn_dependence.specs.declared.decided.Decider.{Decider}
use Rattle.fzn_dependence.specs.Decided.{form_value, decided_in}
use Rattle.fzn_dependence.specs.Dependence.{dependent_at}
use Rattle.fzn_dependence.proofs.DecidedLemmas.{decided-form}
use Rattle.fzn_dependence.proofs.decided.decider_of.Goals as goal

decided-so : (c : Constraint) (found : Form) → form_of c ≡ Some found → (o : Option Decider) → IfSome o (λ d. (value : ℤ) → dependent_at d.dependence value ≡ form_value d.by value found) → IfSome o (λ d. (value : ℤ) → dependent_at d.dependence value ≡ decided_in d.by value c)
decided-so c found is None h = tt
decided-so c found is (Some d) h = λ value. h value ∙ decided-form d.by value c found is

pub returns-in_ok-form_of-in_default-clause-value : goal.returns-in_ok-form_of-in_default-clause-value
returns-in_ok-form_of-in_default-clause-value c = decided-so c.args.constraint.now (form_in c.in_ok-form_of-in_default.field-0) c.in_ok-form_of-in_default.ensures.found c.form_decider.result c.form_decider.ensures.value
