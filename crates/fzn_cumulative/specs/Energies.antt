-- What tasks use at least between two times, and clauses that say so.
use Rattle.std.specs.Prelude.{◌⊎◌, ℤ, ◌+ℤ◌, ◌-ℤ◌, ◌*ℤ◌, ◌≤ℤ◌, List}
use Rattle.std.specs.Int.{int_min}
use Rattle.fzn_domain.specs.declared.literal.Lit.{Lit}
use Rattle.fzn_domain.specs.IntSet.{IntSet}
use Rattle.fzn_values.specs.declared.term.Term.{Term}
use Rattle.fzn_sets.specs.Terms.{least_value, greatest_value}
use Rattle.fzn_rules.specs.Tasks.{task_terms, sum_over}
use Rattle.fzn_rules.specs.Energy.{overlap, least_energy}
use Rattle.fzn_trail.specs.Levels.{Levels}
use Rattle.fzn_terms.specs.Denied.{IsGrown}
use Rattle.fzn_cumulative.specs.declared.tasks.Tasks.{Tasks}

-- how much of the time between the two a task with this start and duration covers at least
abbrev pub least_cover : List IntSet → ℤ → ℤ → Term → Term → ℤ
least_cover sets from until start duration = int_min (overlap from until (least_value sets start) (least_value sets duration)) (overlap from until (greatest_value sets start) (least_value sets duration))

-- what the task of these terms uses at least between the two times
abbrev pub energy_of : List IntSet → ℤ → ℤ → Term → Term → Term → ℤ
energy_of sets from until start duration uses = least_energy sets from until (record { start = start; duration = duration; uses = uses })

-- and the tasks of these together
abbrev pub energies_of : List IntSet → ℤ → ℤ → List Term → List Term → List Term → ℤ
energies_of sets from until starts durations uses = sum_over (least_energy sets from until) (task_terms starts durations uses)

-- the clause, grown from a false one, is false, and says besides that the task uses between the two times no less than on the trail
abbrev pub IsEnergyExplained : Levels → ℤ → ℤ → Term → Term → Term → List Lit → List Lit → Type 0
IsEnergyExplained trail from until start duration uses old new = IsGrown trail (λ sets. energy_of trail.sets from until start duration uses ≤ℤ energy_of sets from until start duration uses) old new

-- so of the tasks together, but for so much
abbrev pub AreEnergiesExplained : Levels → ℤ → ℤ → ℤ → List Term → List Term → List Term → List Lit → List Lit → Type 0
AreEnergiesExplained trail from until spare starts durations uses old new = IsGrown trail (λ sets. energies_of trail.sets from until starts durations uses ≤ℤ (energies_of sets from until starts durations uses +ℤ spare)) old new

-- there is no time between the two, or the tasks use no more in it than there is
abbrev pub IsKeptBetween : List IntSet → Tasks → ℤ → ℤ → Type 0
IsKeptBetween sets tasks from until =
    (until ≤ℤ from)
    ⊎ (energies_of sets from until tasks.starts tasks.durations tasks.uses ≤ℤ (greatest_value sets tasks.capacity *ℤ (until -ℤ from)))
