-- The constraint of a pass over three places, and what it finds.
use Rattle.std.specs.Prelude.{List}
use Rattle.fzn_domain.specs.declared.literal.Lit.{Lit}
use Rattle.fzn_meaning.specs.declared.constraint.Constraint.{Constraint}
use Rattle.fzn_propagator.specs.Clause.{IsJustified}
use Rattle.fzn_propagator.specs.Inference.{Inference, AreFoundOf}
use Rattle.fzn_arithmetic.specs.declared.pass.Pass.{Pass}
use Rattle.fzn_arithmetic.specs.Excluded.{shaped, rule_of}

abbrev pub shape_constraint : Pass → Constraint
shape_constraint pass = shaped pass.shape pass.left pass.right pass.of

-- the rule for its shape justifies the clause from the constraint
abbrev pub IsJustifiedByShape : Pass → List Lit → Type 0
IsJustifiedByShape pass clause = IsJustified pass.trail.now (shape_constraint pass) (rule_of pass.shape) clause

-- so of each of these inferences, which have its number
abbrev pub AreFoundOfShape : Pass → List Inference → Type 0
AreFoundOfShape pass found = AreFoundOf pass.number (shape_constraint pass) pass.trail.now found
