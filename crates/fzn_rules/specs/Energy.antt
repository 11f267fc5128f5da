-- The rule `energy`: what the tasks use between two times is more than there is.
use Rattle.std.specs.Prelude.{ℤ, pos, ◌+ℤ◌, ◌-ℤ◌, ◌*ℤ◌, ◌<ℤ◌, List}
use Rattle.std.specs.Int.{int_min, int_max}
use Rattle.fzn_domain.specs.IntSet.{IntSet}
use Rattle.fzn_values.specs.declared.term.Term.{Term}
use Rattle.fzn_meaning.specs.declared.constraint.Constraint.{Constraint}
use Rattle.fzn_meaning.specs.declared.constraint.Constraint.TheVariants.{Cumulative}
use Rattle.fzn_rules.specs.declared.task.TaskTerms.{TaskTerms}
use Rattle.fzn_sets.specs.Terms.{least_value, greatest_value}
use Rattle.fzn_rules.specs.Tasks.{task_terms, sum_over, least_use}

-- how much of the time between the two a task with this start and duration covers
abbrev pub overlap : ℤ → ℤ → ℤ → ℤ → ℤ
overlap from until start duration = int_max (pos 0) (int_min (start +ℤ duration) until -ℤ int_max start from)

-- the lesser of the overlaps at both ends of the starts, for the shortest duration
abbrev pub least_overlap : List IntSet → ℤ → ℤ → TaskTerms → ℤ
least_overlap sets from until task = int_min (overlap from until (least_value sets task.start) (least_value sets task.duration)) (overlap from until (greatest_value sets task.start) (least_value sets task.duration))

unfoldable pub least_energy : List IntSet → ℤ → ℤ → TaskTerms → ℤ
least_energy sets from until task = least_use sets task *ℤ least_overlap sets from until task

-- the first time is before the second, and the least energies sum to more than the greatest capacity gives between them
pub record HasOverload (sets : List IntSet) (from until : ℤ) (tasks : List TaskTerms) (capacity : Term) : Type 0 where
  pub in_order : from <ℤ until
  pub excess : (greatest_value sets capacity *ℤ (until -ℤ from)) <ℤ sum_over (least_energy sets from until) tasks

unfoldable pub IsEnergyMet : Constraint → List IntSet → ℤ → ℤ → Type 0
IsEnergyMet (Cumulative starts durations uses capacity) sets from until = HasOverload sets from until (task_terms starts durations uses) capacity
IsEnergyMet _ sets from until = ⊥
