-- The row of a pass, and what the pass finds.
use Rattle.std.specs.Prelude.{◌≡◌, ℕ, ℤ, List, Option, slice_index_or}
use Rattle.fzn_domain.specs.declared.literal.Lit.{Lit}
use Rattle.fzn_domain.specs.IntSet.{IntSet}
use Rattle.fzn_meaning.specs.declared.row.VariablePart.{VariablePart}
use Rattle.fzn_meaning.specs.declared.row.Part.{Part}
use Rattle.fzn_meaning.specs.declared.row.Part.TheVariants as parts
use Rattle.fzn_meaning.specs.declared.constraint.Constraint.{Constraint}
use Rattle.fzn_meaning.specs.declared.constraint.Constraint.TheVariants as constraint
use Rattle.fzn_rules.specs.declared.rule.Rule.TheVariants as rule
use Rattle.fzn_propagator.specs.Clause.{IsJustified}
use Rattle.fzn_propagator.specs.Inference.{Inference, AreFoundOf}
use Rattle.fzn_terms.specs.declared.claim.Claim.{Claim}
use Rattle.fzn_terms.specs.Denied.{IsEntailed}
use Rattle.fzn_levels.specs.declared.pass.Pass.{Pass}
use Rattle.fzn_levels.specs.Levels.{IsNoLighter, AreLeasts}

abbrev pub constraint_of : Pass → Constraint
constraint_of pass = constraint.Row pass.row.now

-- the rule `row` justifies the clause from the row
abbrev pub IsJustifiedByRow : Pass → List Lit → Type 0
IsJustifiedByRow pass clause = IsJustified pass.trail.now (constraint_of pass) rule.Row clause

-- so of each of these inferences, which have its number
abbrev pub AreFoundOfRow : Pass → List Inference → Type 0
AreFoundOfRow pass found = AreFoundOf pass.number (constraint_of pass) pass.trail.now found

-- what the parts weigh at least on the trail
abbrev pub AreLeastsOf : Pass → List ℤ → Type 0
AreLeastsOf pass leasts = AreLeasts pass.trail.now.sets pass.row.now.parts leasts

-- where the claim is true of each value of the part's variable, the part weighs no less than the level
abbrev pub WeighsWhere : VariablePart → Claim → Option ℤ → Type 0
WeighsWhere variable claim level = (sets : List IntSet) → IsEntailed sets claim → IsNoLighter sets (parts.Variable variable) level

-- this is the part at an index
abbrev pub IsPartAt : Pass → ℕ → Part → Type 0
IsPartAt pass k part = (default : Part) → slice_index_or pass.row.now.parts k default ≡ part
