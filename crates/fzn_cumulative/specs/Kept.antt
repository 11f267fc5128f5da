-- When the tasks keep the capacity, where all variables are fixed.
use Rattle.std.specs.Prelude.{ℕ, ◌<◌, ℤ, negsuc, List, length, map, slice_index_or}
use Rattle.std.specs.List.{Any}
use Rattle.fzn_domain.specs.declared.literal.Lit.{Lit}
use Rattle.fzn_domain.specs.declared.literal.Op.TheVariants.{AtMost}
use Rattle.fzn_domain.specs.IntSet.{IntSet}
use Rattle.fzn_domain.specs.Narrow.{IsWithin}
use Rattle.fzn_values.specs.declared.term.Term.{Term}
use Rattle.fzn_values.specs.declared.term.Term.TheVariants.{Constant}
use Rattle.fzn_meaning.specs.declared.constraint.Constraint.{Constraint}
use Rattle.fzn_meaning.specs.declared.constraint.Constraint.TheVariants.{Cumulative}
use Rattle.fzn_meaning.specs.Meaning.{Meets}
use Rattle.fzn_sets.specs.Terms.{least_value, greatest_value}
use Rattle.fzn_rules.specs.GlobalRows.{IsBelowZero}
use Rattle.fzn_trail.specs.Levels.{Levels}
use Rattle.fzn_propagator.specs.Inference.{AllFixed}
use Rattle.fzn_propagator.specs.Clause.{Says, IsForcing}
use Rattle.fzn_terms.specs.Denied.{that, IsDenied}
use Rattle.fzn_cumulative.specs.declared.tasks.Tasks.{Tasks}
use Rattle.fzn_cumulative.specs.Loads.{cumulative_of, IsKeptAt}

-- no term of these has a value below 0
abbrev pub AreNotBelow : List IntSet → List Term → Type 0
AreNotBelow sets terms = (k : ℕ) (default : Term) → k < length terms → IsDenied sets (that (slice_index_or terms k default) AtMost (negsuc 0))

-- nor has a duration, a use or the capacity
pub record HasNoneBelow (sets : List IntSet) (tasks : Tasks) : Type 0 where
  pub durations : AreNotBelow sets tasks.durations
  pub uses : AreNotBelow sets tasks.uses
  pub capacity : IsDenied sets (that tasks.capacity AtMost (negsuc 0))

-- a clause that is false or forces a literal, and says that some of the terms is below 0
pub record IsSomeBelow (trail : Levels) (terms : List Term) (clause : List Lit) : Type 0 where
  pub forcing : IsForcing trail clause
  pub says : Says trail.declared clause (λ sets. Any (IsBelowZero sets) terms)

-- so it is kept at the greatest start of each task
abbrev pub AreKept : List IntSet → Tasks → Type 0
AreKept sets tasks = (k : ℕ) (default : Term) → k < length tasks.starts → IsKeptAt sets tasks (greatest_value sets (slice_index_or tasks.starts k default))

-- the least value of each term, as a constant
abbrev pub least_terms : List IntSet → List Term → List Term
least_terms sets terms = map (λ term. Constant (least_value sets term)) terms

-- the same constraint on these
abbrev pub least_cumulative : List IntSet → Tasks → Constraint
least_cumulative sets tasks = Cumulative (least_terms sets tasks.starts) (least_terms sets tasks.durations) (least_terms sets tasks.uses) (Constant (least_value sets tasks.capacity))

-- where all variables are fixed, the values meet the constraint
abbrev pub MeetsWhereFixed : List IntSet → Tasks → Type 0
MeetsWhereFixed sets tasks = AllFixed sets → (values : List ℤ) → IsWithin sets values → Meets (cumulative_of tasks) values
