-- Tasks that share a capacity (Global Constraint Catalog, "cumulative").
use Rattle.std.specs.Prelude.{Bool, ◌&&◌, if◌then◌else◌, ℤ, pos, ◌+ℤ◌, ◌≤ℤ◌, int_le, int_lt, List, [], ◌∷◌}
use Rattle.std.specs.List.{All}

pub record Task : Type 0 where
  pub start : ℤ
  pub duration : ℤ
  pub uses : ℤ

-- the tasks whose starts, durations and uses stand side by side
abbrev pub tasks : List ℤ → List ℤ → List ℤ → List Task
tasks [] durations uses = []
tasks (s ∷ starts) [] uses = []
tasks (s ∷ starts) (d ∷ durations) [] = []
tasks (s ∷ starts) (d ∷ durations) (r ∷ uses) = record { start = s; duration = d; uses = r } ∷ tasks starts durations uses

-- from its start on, for its duration
abbrev pub runs_at : ℤ → Task → Bool
runs_at t task = int_le task.start t && int_lt t (task.start +ℤ task.duration)

-- what a task uses at a time: nothing where it does not run
abbrev pub use_at : ℤ → Task → ℤ
use_at t task = if runs_at t task then task.uses else pos 0

-- the sum of the uses at a time
abbrev pub load_at : ℤ → List Task → ℤ
load_at t [] = pos 0
load_at t (task ∷ rest) = use_at t task +ℤ load_at t rest

abbrev pub NoneNegative : List ℤ → Type 0
NoneNegative xs = All (λ x. pos 0 ≤ℤ x) xs

-- nothing is negative, and at every time the uses of the tasks that run sum to at most the capacity
pub record IsCumulative (starts durations uses : List ℤ) (capacity : ℤ) : Type 0 where
  pub durations_not_negative : NoneNegative durations
  pub uses_not_negative : NoneNegative uses
  pub capacity_not_negative : pos 0 ≤ℤ capacity
  pub within : (t : ℤ) → load_at t (tasks starts durations uses) ≤ℤ capacity
