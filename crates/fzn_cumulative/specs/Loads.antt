-- What tasks surely use at a time, and clauses that say so.
use Rattle.std.specs.Prelude.{◌≡◌, ◌⊎◌, ℕ, zero, suc, ◌*◌, ℤ, pos, negsuc, ◌+ℤ◌, ◌-ℤ◌, ◌≤ℤ◌, ◌<ℤ◌, Bool, false, ◌&&◌, int_le, int_lt, List, [], ◌∷◌, length, slice_index_or}
use Rattle.std.specs.Int.{int_max}
use Rattle.std.proofs.Props.{props}
use Rattle.fzn_domain.specs.declared.literal.Lit.{Lit}
use Rattle.fzn_domain.specs.declared.literal.Op.TheVariants.{AtMost, AtLeast}
use Rattle.fzn_domain.specs.IntSet.{IntSet}
use Rattle.fzn_values.specs.declared.term.Term.{Term}
use Rattle.fzn_values.specs.declared.term.Term.TheVariants.{Constant}
use Rattle.fzn_meaning.specs.declared.constraint.Constraint.{Constraint}
use Rattle.fzn_meaning.specs.declared.constraint.Constraint.TheVariants.{Cumulative}
use Rattle.fzn_values.specs.Term.{IsTerm}
use Rattle.fzn_meaning.specs.Meaning.{AreTerms}
use Rattle.fzn_sets.specs.Terms.{least_value, greatest_value}
use Rattle.fzn_rules.specs.Tasks.{task_terms, sum_over}
use Rattle.fzn_rules.specs.Load.{least_use_at}
use Rattle.fzn_trail.specs.Levels.{Levels}
use Rattle.fzn_propagator.specs.Clause.{Says, IsFalseClause}
use Rattle.fzn_terms.specs.Denied.{that, IsDenied, IsGrown}
use Rattle.fzn_terms.specs.Values.{IsTerm-prop}
use Rattle.fzn_cumulative.specs.declared.tasks.Tasks.{Tasks}

-- tasks on this many variables
pub record AreReady (count : ℕ) (tasks : Tasks) : Type 0 where
  pub starts : AreTerms count tasks.starts
  pub durations : AreTerms count tasks.durations
  pub uses : AreTerms count tasks.uses
  pub capacity : IsTerm count tasks.capacity
  pub as_many_durations : length tasks.durations ≡ length tasks.starts
  pub as_many_uses : length tasks.uses ≡ length tasks.starts

-- of which there is one proof at most
pub AreReady-prop : (count : ℕ) (tasks : Tasks) → IsProp (AreReady count tasks)
AreReady-prop count tasks = Prim.hlevel (props, IsTerm-prop)

abbrev pub cumulative_of : Tasks → Constraint
cumulative_of tasks = Cumulative tasks.starts tasks.durations tasks.uses tasks.capacity

-- the times at which some task may run
abbrev pub IsTime : ℤ → Type 0
IsTime time = (negsuc 999999999 ≤ℤ time) × (time ≤ℤ pos 2000000000)

-- a task with this start and duration runs at the time wherever it starts and however long it takes
abbrev pub runs_surely : List IntSet → ℤ → Term → Term → Bool
runs_surely sets time start duration = int_le (greatest_value sets start) time && int_lt time (least_value sets start +ℤ least_value sets duration)

-- what the task of these terms surely uses at the time
abbrev pub least_use_of : List IntSet → ℤ → Term → Term → Term → ℤ
least_use_of sets time start duration uses = least_use_at sets time (record { start = start; duration = duration; uses = uses })

-- and the tasks of these together
abbrev pub total_of : List IntSet → ℤ → List Term → List Term → List Term → ℤ
total_of sets time starts durations uses = sum_over (least_use_at sets time) (task_terms starts durations uses)

-- but for the one at an index
abbrev pub total_but : ℕ → List IntSet → ℤ → List Term → List Term → List Term → ℤ
total_but except sets time [] ds rs = pos 0
total_but except sets time (s ∷ ss) [] rs = pos 0
total_but except sets time (s ∷ ss) (d ∷ ds) [] = pos 0
total_but zero sets time (s ∷ ss) (d ∷ ds) (r ∷ rs) = total_of sets time ss ds rs
total_but (suc except) sets time (s ∷ ss) (d ∷ ds) (r ∷ rs) = least_use_of sets time s d r +ℤ total_but except sets time ss ds rs

-- the clause, grown from a false one, is false, and says besides that the task uses at the time no less than on the trail
abbrev pub IsUseExplained : Levels → ℤ → Term → Term → Term → List Lit → List Lit → Type 0
IsUseExplained trail time start duration uses old new = IsGrown trail (λ sets. least_use_of trail.sets time start duration uses ≤ℤ least_use_of sets time start duration uses) old new

-- so of the tasks but for the one at an index, together and but for so much
abbrev pub AreExplained : Levels → ℤ → ℕ → ℤ → List Term → List Term → List Term → List Lit → List Lit → Type 0
AreExplained trail time except spare starts durations uses old new = IsGrown trail (λ sets. total_but except trail.sets time starts durations uses ≤ℤ (total_but except sets time starts durations uses +ℤ spare)) old new

-- the tasks surely use no more at the time than the capacity may be
abbrev pub IsKeptAt : List IntSet → Tasks → ℤ → Type 0
IsKeptAt sets tasks time = total_of sets time tasks.starts tasks.durations tasks.uses ≤ℤ greatest_value sets tasks.capacity

-- the clause is false, and says that the capacity is no more than it may be on the trail
pub record HasNoMore (trail : Levels) (tasks : Tasks) (clause : List Lit) : Type 0 where
  pub still : IsFalseClause trail clause
  pub says : Says trail.declared clause (λ sets. greatest_value sets tasks.capacity ≤ℤ greatest_value trail.sets tasks.capacity)

-- what a task uses at least while it runs
abbrev pub least_amount : List IntSet → Term → ℤ
least_amount sets uses = int_max (pos 0) (least_value sets uses)

-- the terms of the task at an index
abbrev pub start_at : Tasks → ℕ → Term
start_at tasks k = slice_index_or tasks.starts k (Constant (pos 0))

abbrev pub duration_at : Tasks → ℕ → Term
duration_at tasks k = slice_index_or tasks.durations k (Constant (pos 0))

abbrev pub uses_at : Tasks → ℕ → Term
uses_at tasks k = slice_index_or tasks.uses k (Constant (pos 0))

-- what the tasks but for the one at an index surely use at the time
abbrev pub others_of : List IntSet → ℤ → ℕ → Tasks → ℤ
others_of sets time k tasks = total_but k sets time tasks.starts tasks.durations tasks.uses

-- a number is that, which is not too great to add
pub record IsLoadOfOthers (sets : List IntSet) (time : ℤ) (k : ℕ) (tasks : Tasks) (load : ℤ) : Type 0 where
  pub value : load ≡ others_of sets time k tasks
  pub low : pos 0 ≤ℤ load
  pub high : load ≤ℤ pos (100000 * 1000000000)

-- they leave room for so much
abbrev pub HasRoomBeside : List IntSet → ℤ → ℕ → ℤ → Tasks → Type 0
HasRoomBeside sets time k amount tasks = (others_of sets time k tasks +ℤ amount) ≤ℤ greatest_value sets tasks.capacity

-- the task at an index may end by the time, there is room for it, or it starts later anyway
abbrev pub IsFreeAfter : List IntSet → ℤ → ℕ → Tasks → Type 0
IsFreeAfter sets time k tasks =
    ((least_value sets (start_at tasks k) +ℤ least_value sets (duration_at tasks k)) ≤ℤ time)
    ⊎ (HasRoomBeside sets time k (least_amount sets (uses_at tasks k)) tasks
    ⊎ IsDenied sets (that (start_at tasks k) AtMost time))

-- it may start after the time, there is room for it, or it ends by then anyway
abbrev pub IsFreeBefore : List IntSet → ℤ → ℕ → Tasks → Type 0
IsFreeBefore sets time k tasks =
    (time <ℤ greatest_value sets (start_at tasks k))
    ⊎ (HasRoomBeside sets time k (least_amount sets (uses_at tasks k)) tasks
    ⊎ IsDenied sets (that (start_at tasks k) AtLeast ((time -ℤ least_value sets (duration_at tasks k)) +ℤ pos 1)))

-- it may start after the time, there is room for it, or it is short enough anyway to end by then from its earliest start
abbrev pub IsFreeForLong : List IntSet → ℤ → ℕ → Tasks → Type 0
IsFreeForLong sets time k tasks =
    (time <ℤ greatest_value sets (start_at tasks k))
    ⊎ (HasRoomBeside sets time k (least_amount sets (uses_at tasks k)) tasks
    ⊎ IsDenied sets (that (duration_at tasks k) AtLeast ((time -ℤ least_value sets (start_at tasks k)) +ℤ pos 1)))

-- it may not run at the time, the others use too much alone, or it uses no more than what they leave
abbrev pub IsFreeToUse : List IntSet → ℤ → ℕ → Tasks → Type 0
IsFreeToUse sets time k tasks =
    (runs_surely sets time (start_at tasks k) (duration_at tasks k) ≡ false)
    ⊎ ((greatest_value sets tasks.capacity <ℤ others_of sets time k tasks)
    ⊎ IsDenied sets (that (uses_at tasks k) AtLeast ((greatest_value sets tasks.capacity -ℤ others_of sets time k tasks) +ℤ pos 1)))

-- the tasks surely use more at the time than any capacity, or the capacity is no less than that
abbrev pub IsFreeAt : List IntSet → ℤ → Tasks → Type 0
IsFreeAt sets time tasks =
    (pos 1000000000 <ℤ total_of sets time tasks.starts tasks.durations tasks.uses)
    ⊎ IsDenied sets (that tasks.capacity AtMost (total_of sets time tasks.starts tasks.durations tasks.uses -ℤ pos 1))
