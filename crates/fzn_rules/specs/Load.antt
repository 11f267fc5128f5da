-- The rule `load`: the tasks that surely run at a time use more than the capacity.
use Rattle.std.specs.Prelude.{Bool, ◌&&◌, if◌then◌else◌, ℤ, pos, ◌+ℤ◌, ◌<ℤ◌, int_le, int_lt, List}
use Rattle.fzn_domain.specs.IntSet.{IntSet}
use Rattle.fzn_meaning.specs.declared.constraint.Constraint.{Constraint}
use Rattle.fzn_meaning.specs.declared.constraint.Constraint.TheVariants.{Cumulative}
use Rattle.fzn_rules.specs.declared.task.TaskTerms.{TaskTerms}
use Rattle.fzn_sets.specs.Terms.{least_value, greatest_value}
use Rattle.fzn_rules.specs.Tasks.{task_terms, sum_over, least_use}

-- the task runs at t wherever it starts and however long it takes
abbrev pub surely_runs : List IntSet → ℤ → TaskTerms → Bool
surely_runs sets t task = int_le (greatest_value sets task.start) t && int_lt t (least_value sets task.start +ℤ least_value sets task.duration)

abbrev pub least_use_at : List IntSet → ℤ → TaskTerms → ℤ
least_use_at sets t task = if surely_runs sets t task then least_use sets task else pos 0

-- load: the least uses of the tasks that surely run at t sum to more than the greatest capacity
unfoldable pub IsLoadMet : Constraint → List IntSet → ℤ → Type 0
IsLoadMet (Cumulative starts durations uses capacity) sets t = greatest_value sets capacity <ℤ sum_over (least_use_at sets t) (task_terms starts durations uses)
IsLoadMet _ sets t = ⊥
