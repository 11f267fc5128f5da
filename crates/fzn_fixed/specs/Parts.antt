-- The parts of a constraint that is no sum.
use Rattle.std.specs.Prelude.{◌≡◌, ℕ, Some, None}
use Rattle.fzn_meaning.specs.declared.constraint.Constraint.{Constraint}
use Rattle.fzn_meaning.specs.Meaning.{IsWellFormedConstraint}
use Rattle.fzn_builtin_rules.specs.Choices.{inputs_of, result_of}
use Rattle.fzn_builtin_rules.specs.Form.{form_of}
use Rattle.fzn_fixed.specs.declared.parts.Parts.{Parts}

-- the constraint with its input places and the place of its result
pub record ArePartsOf (constraint : Constraint) (parts : Parts) : Type 0 where
  pub copy : parts.constraint ≡ constraint
  pub inputs : inputs_of constraint ≡ Some parts.inputs
  pub result : result_of constraint ≡ parts.result

-- parts of a constraint on this many variables that is no sum
pub record ArePartsReady (count : ℕ) (parts : Parts) : Type 0 where
  pub formed : IsWellFormedConstraint count parts.constraint
  pub parts_of : ArePartsOf parts.constraint parts
  pub other : form_of parts.constraint ≡ None
