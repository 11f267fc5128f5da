-- Which constraint a propagator stands for.
use Rattle.std.specs.Prelude.{◌≡◌, ℕ, Some}
use Rattle.std.proofs.Props.{props}
use Rattle.fzn_meaning.specs.declared.constraint.Constraint.{Constraint}
use Rattle.fzn_meaning.specs.Meaning.{IsSwitch}
use Rattle.fzn_builtin_rules.specs.Form.{Form, form, form_of}
use Rattle.fzn_terms.specs.Values.{IsTerm-prop}
use Rattle.fzn_linear.specs.declared.form.SumForm.{SumForm}
use Rattle.fzn_linear.specs.OppositeForm.{opposite_form}
use Rattle.fzn_linear.specs.Sum.{IsSumWithOpposite}

abbrev pub form_of_sum : SumForm → Form
form_of_sum sum = form sum.places sum.comparison sum.bound sum.switch

-- the form of the constraint
abbrev pub IsFormOf : Constraint → SumForm → Type 0
IsFormOf constraint sum = form_of constraint ≡ Some (form_of_sum sum)

-- a form and the one that holds exactly where it does not
pub record IsSumReady (count : ℕ) (sum opposite : SumForm) : Type 0 where
  pub on : IsSumWithOpposite count sum opposite.places
  pub off : IsSumWithOpposite count opposite sum.places
  pub switch_fits : IsSwitch count sum.switch
  pub opposite_is : form_of_sum opposite ≡ opposite_form (form_of_sum sum)

pub IsReady-prop : (count : ℕ) (sum opposite : SumForm) → IsProp (IsSumReady count sum opposite)
IsReady-prop count sum opposite = Prim.hlevel (props, IsTerm-prop)
