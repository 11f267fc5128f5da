-- How a clause stands on a trail, what it says of the sets on which it is denied, and when a rule justifies it.
use Rattle.std.specs.Prelude.{◌≡◌, false, ℤ, List, [], length}
use Rattle.std.specs.List.{All}
use Rattle.fzn_domain.specs.declared.literal.Lit.{Lit}
use Rattle.fzn_domain.specs.IntSet.{IntSet}
use Rattle.fzn_domain.specs.Limits.{IsNearLimits}
use Rattle.fzn_domain.specs.Narrow.{IsClauseOver, denied, is_some_empty, possible_in}
use Rattle.fzn_values.specs.declared.term.Term.{Term}
use Rattle.fzn_meaning.specs.declared.constraint.Constraint.{Constraint}
use Rattle.fzn_values.specs.Term.{IsTerm}
use Rattle.fzn_rules.specs.declared.rule.Rule.{Rule}
use Rattle.fzn_rules.specs.Rules.{IsAcceptedBy}
use Rattle.fzn_sets.specs.Terms.{MayBe}
use Rattle.fzn_trail.specs.Levels.{Levels}
use Rattle.fzn_trail.specs.Unit.{IsFalseOrUnit}
use Rattle.fzn_propagator.specs.Left.{IsLeft}

-- ---- how it stands

-- the numbers that a literal of a certificate may have
abbrev pub IsWritable : Lit → Type 0
IsWritable lit = IsNearLimits lit.value

-- a clause that is false on the trail
pub record IsFalseClause (trail : Levels) (clause : List Lit) : Type 0 where
  pub over : IsClauseOver (length trail.declared) clause
  pub writable : All IsWritable clause
  pub impossible : possible_in trail.sets clause ≡ []

-- a clause that is false on the trail, or forces one literal
pub record IsForcing (trail : Levels) (clause : List Lit) : Type 0 where
  pub over : IsClauseOver (length trail.declared) clause
  pub writable : All IsWritable clause
  pub forces : IsFalseOrUnit trail.sets clause

-- ---- what it says where it is denied

-- as many sets as are declared, none of them empty, in which each term has only values that the clause leaves
pub record AreLeftByClause (declared : List IntSet) (clause : List Lit) (sets : List IntSet) : Type 0 where
  pub one_each : length sets ≡ length declared
  pub filled : is_some_empty sets ≡ false
  pub left : (term : Term) (v : ℤ) → IsTerm (length declared) term → MayBe sets term v → IsLeft declared clause term v

-- so it is of all such sets
abbrev pub Says : List IntSet → List Lit → (List IntSet → Type 0) → Type 0
Says declared clause P = (sets : List IntSet) → AreLeftByClause declared clause sets → P sets

-- what the old clause says, the new one says too
abbrev pub Keeps : List IntSet → List Lit → List Lit → Type 0
Keeps declared old new = Says declared new (AreLeftByClause declared old)

-- ---- what justifies it

-- a clause that is false on the trail or forces one literal, and on whose denied sets so it is
pub record IsJustifiedBy (trail : Levels) (IsMetOn : List IntSet → Type 0) (clause : List Lit) : Type 0 where
  pub forcing : IsForcing trail clause
  pub met : is_some_empty (denied trail.declared clause) ≡ false → IsMetOn (denied trail.declared clause)

-- such a clause that the rule has from the constraint
pub record IsJustified (trail : Levels) (constraint : Constraint) (rule : Rule) (clause : List Lit) : Type 0 where
  pub forcing : IsForcing trail clause
  pub accepted : IsAcceptedBy constraint rule trail.declared clause
