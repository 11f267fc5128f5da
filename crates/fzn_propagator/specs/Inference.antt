-- What an inference promises, and what it means that there is none.
use Rattle.std.specs.Prelude.{◌≡◌, ℕ, ℤ, ◌+ℤ◌, ◌-ℤ◌, ◌≤ℤ◌, List, Some, None}
use Rattle.std.specs.List.{All}
use Rattle.fzn_domain.specs.IntSet.{IntSet}
use Rattle.fzn_domain.specs.Ascending.{IsAscending}
use Rattle.fzn_domain.specs.Narrow.{IsWithin}
pub use Rattle.fzn_domain.specs.Narrow.{AllFixed}
use Rattle.fzn_values.specs.declared.term.Place.{Place}
use Rattle.fzn_meaning.specs.declared.constraint.Constraint.{Constraint}
use Rattle.fzn_meaning.specs.Meaning.{Meets, HasBooleanSets}
use Rattle.fzn_rules.specs.declared.rule.Rule.{Rule}
use Rattle.fzn_rules.specs.declared.rule.Rule.TheVariants.{Cut}
pub use Rattle.fzn_rules.specs.Hints.{IsHint, hints_of}
use Rattle.fzn_meaning.specs.declared.relation.Comparison.TheVariants.{AtMost}
use Rattle.fzn_builtin_rules.specs.Linear.{least_sum, low_product, high_product}
use Rattle.fzn_builtin_rules.specs.Form.{Form, form_of}
use Rattle.fzn_trail.specs.Levels.{Levels}
pub use Rattle.fzn_cert.specs.declared.step.Inference.{Inference}
use Rattle.fzn_propagator.specs.Barred.{LeavesNoBarred, IsToDiffer}
use Rattle.fzn_propagator.specs.Clause.{IsJustified}

abbrev pub HasWritableHints : Rule → Type 0
HasWritableHints (Cut places) = All IsHint places × IsAscending places
HasWritableHints rule = All IsHint (hints_of rule)

-- the rule justifies the clause from the constraint, which has this number
pub record IsNumberedInference (number : ℕ) (constraint : Constraint) (trail : Levels) (inference : Inference) : Type 0 where
  pub of_constraint : inference.constraint ≡ number
  pub hints : HasWritableHints inference.rule
  pub justified : IsJustified trail constraint inference.rule inference.clause

-- so of each of these constraints
abbrev pub IsInferenceOf : ℕ → (Constraint → Type 0) → Levels → Inference → Type 0
IsInferenceOf number is_for trail inference = (constraint : Constraint) → is_for constraint → IsNumberedInference number constraint trail inference

-- so is each of these
abbrev pub AreInferencesOf : ℕ → (Constraint → Type 0) → Levels → List Inference → Type 0
AreInferencesOf number is_for trail found = All (IsInferenceOf number is_for trail) found

-- so is each of these, from this one constraint
pub record AreFoundOf (number : ℕ) (constraint : Constraint) (trail : Levels) (found : List Inference) : Type 0 where
  pub all : AreInferencesOf number (λ other. constraint ≡ other) trail found

-- how much more a place may give than its least
abbrev pub spread_of_place : List IntSet → Place → ℤ
spread_of_place sets place = high_product sets place -ℤ low_product sets place

-- neither the least sum exceeds the bound, nor does it with any one place at its other end
pub record IsTight (sets : List IntSet) (places : List Place) (bound : ℤ) : Type 0 where
  pub least : least_sum sets places ≤ℤ bound
  pub one_other : All (λ place. (least_sum sets places +ℤ spread_of_place sets place) ≤ℤ bound) places

-- the strength that is promised of a sum that is at most a bound
abbrev pub HasStrength : Constraint → List IntSet → Type 0
HasStrength constraint sets =
    (form : Form) → form_of constraint ≡ Some form → form.comparison ≡ AtMost → form.switch ≡ None → IsTight sets form.places form.bound

-- the strength that is promised of a sum that is not to be a number
abbrev pub HasNoBarred : Constraint → List IntSet → Type 0
HasNoBarred constraint sets = (form : Form) → form_of constraint ≡ Some form → IsToDiffer sets form → LeavesNoBarred sets form.places form.bound

-- where all variables are fixed, the constraint holds
abbrev pub HoldsWhereFixed : Levels → Constraint → Type 0
HoldsWhereFixed trail constraint =
    AllFixed trail.sets → (values : List ℤ) → IsWithin trail.declared values → IsWithin trail.sets values → Meets constraint values

-- no inference is left: where all variables are fixed the constraint holds, and the strength is reached
pub record IsInferredOut (constraint : Constraint) (trail : Levels) : Type 0 where
  pub holds : HoldsWhereFixed trail constraint
  pub strong : HasStrength constraint trail.sets
  pub none_barred : HasNoBarred constraint trail.sets

-- so of each of these constraints whose Boolean terms are declared so
abbrev pub AreExhausted : (Constraint → Type 0) → Levels → Type 0
AreExhausted is_for trail = (constraint : Constraint) → is_for constraint → HasBooleanSets trail.declared constraint → IsInferredOut constraint trail
