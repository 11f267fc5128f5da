-- What a clause rules out of a sum that compares with a bound, and what it means that none is found.
use Rattle.std.specs.Prelude.{◌⊎◌, ℤ, pos, ◌-ℤ◌, ◌<ℤ◌, ◌≤ℤ◌, List}
use Rattle.fzn_domain.specs.declared.literal.Lit.{Lit}
use Rattle.fzn_domain.specs.IntSet.{IntSet}
use Rattle.fzn_values.specs.declared.term.Place.{Place}
use Rattle.fzn_meaning.specs.declared.relation.Comparison.{Comparison}
use Rattle.fzn_meaning.specs.declared.relation.Comparison.TheVariants.{AtMost, Equal, NotEqual}
use Rattle.fzn_builtin_rules.specs.Linear.{least_sum}
use Rattle.fzn_trail.specs.Levels.{Levels}
use Rattle.fzn_propagator.specs.Barred.{LeavesNoBarred}
use Rattle.fzn_propagator.specs.Clause.{IsFalseClause, IsForcing}
use Rattle.fzn_propagator.specs.Inference.{IsTight}
use Rattle.fzn_sum.specs.Explained.{Exceeds}
use Rattle.fzn_sum.specs.Opposite.{opposites}

-- whatever values the clause leaves, each place by itself, no sum compares so with the bound
abbrev pub RulesOut : Levels → List Lit → Comparison → List Place → ℤ → Type 0
RulesOut trail clause AtMost places bound = Exceeds trail clause places bound
RulesOut trail clause Equal places bound = Exceeds trail clause places bound ⊎ Exceeds trail clause (opposites places) (pos 0 -ℤ bound)
RulesOut trail clause NotEqual places bound = Exceeds trail clause places (bound -ℤ pos 1) × Exceeds trail clause (opposites places) ((pos 0 -ℤ bound) -ℤ pos 1)

-- a clause that is false and rules that out
pub record IsSumConflict (trail : Levels) (comparison : Comparison) (places : List Place) (bound : ℤ) (clause : List Lit) : Type 0 where
  pub still : IsFalseClause trail clause
  pub rules_out : RulesOut trail clause comparison places bound

-- a clause that is false or forces one literal, and rules that out
pub record IsRefutation (trail : Levels) (comparison : Comparison) (places : List Place) (bound : ℤ) (clause : List Lit) : Type 0 where
  pub forcing : IsForcing trail clause
  pub rules_out : RulesOut trail clause comparison places bound

-- the ends of the sum leave a sum that compares so with the bound
abbrev pub LeavesSome : List IntSet → Comparison → List Place → ℤ → Type 0
LeavesSome sets AtMost places bound = least_sum sets places ≤ℤ bound
LeavesSome sets Equal places bound = (least_sum sets places ≤ℤ bound) × (least_sum sets (opposites places) ≤ℤ (pos 0 -ℤ bound))
LeavesSome sets NotEqual places bound = (least_sum sets places <ℤ bound) ⊎ (least_sum sets (opposites places) <ℤ (pos 0 -ℤ bound))

-- so, and with any one place at its other end where the sum is to be at most the bound, and with no values that it bars where it is not
-- to be the bound
abbrev pub LeavesEach : List IntSet → Comparison → List Place → ℤ → Type 0
LeavesEach sets AtMost places bound = IsTight sets places bound
LeavesEach sets Equal places bound = LeavesSome sets Equal places bound
LeavesEach sets NotEqual places bound = LeavesSome sets NotEqual places bound × LeavesNoBarred sets places bound
