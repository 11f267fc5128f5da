-- Tasks whose starts, durations and uses are terms.
use Rattle.std.specs.Prelude.{ℕ, ℤ, pos, ◌+ℤ◌, List, [], ◌∷◌}
use Rattle.std.specs.Int.{int_max}
use Rattle.fzn_domain.specs.IntSet.{IntSet}
use Rattle.fzn_values.specs.declared.term.Term.{Term}
use Rattle.fzn_values.specs.Term.{IsTerm}
use Rattle.fzn_rules.specs.declared.task.TaskTerms.{TaskTerms}
use Rattle.fzn_sets.specs.Terms.{least_value}

-- its terms are constants within the limits, or some of this many variables
pub record IsTask (count : ℕ) (task : TaskTerms) : Type 0 where
  pub start : IsTerm count task.start
  pub duration : IsTerm count task.duration
  pub uses : IsTerm count task.uses

-- the tasks whose starts, durations and uses stand side by side
abbrev pub task_terms : List Term → List Term → List Term → List TaskTerms
task_terms [] durations uses = []
task_terms (s ∷ starts) [] uses = []
task_terms (s ∷ starts) (d ∷ durations) [] = []
task_terms (s ∷ starts) (d ∷ durations) (r ∷ uses) = record { start = s; duration = d; uses = r } ∷ task_terms starts durations uses

-- the sum over the tasks of what each gives
abbrev pub sum_over : (TaskTerms → ℤ) → List TaskTerms → ℤ
sum_over give [] = pos 0
sum_over give (task ∷ rest) = give task +ℤ sum_over give rest

-- what a task uses at least while it runs: no use is below 0
abbrev pub least_use : List IntSet → TaskTerms → ℤ
least_use sets task = int_max (pos 0) (least_value sets task.uses)
