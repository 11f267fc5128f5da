-- The rule `load`: on sets where it is met, no choice of one value from each set meets the constraint.
use Rattle.std.proofs.Common.{List, cond, ◌&&◌, refl, arith, ℤ, pos, ◌+ℤ◌, ◌≤ℤ◌, int_lt}
use Rattle.std.specs.Prelude.{int_le}
use Rattle.std.specs.Int.{int_max}
use Rattle.std.proofs.lemmas.Int.{ints}
use Rattle.fzn_domain.specs.IntSet.{IntSet}
use Rattle.fzn_domain.specs.Narrow.{IsWithin}
use Rattle.fzn_values.specs.declared.term.Term.{Term}
use Rattle.fzn_meaning.specs.declared.constraint.Constraint.{Constraint}
use Rattle.fzn_meaning.specs.declared.constraint.Constraint.TheVariants.{Cumulative}
use Rattle.fzn_values.specs.Cumulative.{tasks, use_at, load_at, IsCumulative}
use Rattle.fzn_values.specs.Term.{term_value, values_of}
use Rattle.fzn_meaning.specs.Meaning.{Meets}
use Rattle.fzn_rules.specs.declared.task.TaskTerms.{TaskTerms}
use Rattle.fzn_sets.specs.Terms.{least_value, greatest_value}
use Rattle.fzn_rules.specs.Tasks.{task_terms, sum_over}
use Rattle.fzn_rules.specs.Load.{least_use_at, IsLoadMet}
use Rattle.fzn_rules.proofs.TaskLemmas.{task_of, tasks-task_terms, IsNotNegative, chosen, sum_over-le}
use Rattle.fzn_sets.proofs.CallerLemmas.{term_between}

use_bound : (low high shortest start duration lowest need t : ℤ) → low ≤ℤ start → start ≤ℤ high → shortest ≤ℤ duration → lowest ≤ℤ need → pos 0 ≤ℤ need → cond (int_le high t && int_lt t (low +ℤ shortest)) (int_max (pos 0) lowest) (pos 0) ≤ℤ cond (int_le start t && int_lt t (start +ℤ duration)) need (pos 0)
use_bound low high shortest start duration lowest need t a b c d e = grind (arith, ints)

least_use_at-le : (sets : List IntSet) (values : List ℤ) (t : ℤ) (task : TaskTerms) → IsWithin sets values → IsNotNegative (task_of values task) → least_use_at sets t task ≤ℤ use_at t (task_of values task)
least_use_at-le sets values t task within ok =
    let start = term_between sets values task.start within in
    use_bound (least_value sets task.start) (greatest_value sets task.start) (least_value sets task.duration) (term_value values task.start) (term_value values task.duration) (least_value sets task.uses) (term_value values task.uses) t
    start.0 start.1 (term_between sets values task.duration within).0 (term_between sets values task.uses within).0 ok.uses

load_at_most : (sets : List IntSet) (values : List ℤ) (t : ℤ) (starts durations uses : List Term) (capacity : ℤ) → IsWithin sets values → IsCumulative (values_of values starts) (values_of values durations) (values_of values uses) capacity → sum_over (least_use_at sets t) (task_terms starts durations uses) ≤ℤ load_at t (tasks (values_of values starts) (values_of values durations) (values_of values uses))
load_at_most sets values t starts durations uses capacity within meets =
    rw (tasks-task_terms values starts durations uses)
    (sum_over-le values (least_use_at sets t) (load_at t) (use_at t) refl (λ task rest. refl) (λ task ok. least_use_at-le sets values t task within ok) (task_terms starts durations uses) (chosen values starts durations uses capacity meets))

pub load_sound : (constraint : Constraint) (sets : List IntSet) (t : ℤ) (values : List ℤ) → IsLoadMet constraint sets t → IsWithin sets values → Meets constraint values → ⊥
unfolding IsLoadMet Meets
load_sound (Cumulative starts durations uses capacity) sets t values met within meets =
    let low = load_at_most sets values t starts durations uses (term_value values capacity) within meets in
    let most = (term_between sets values capacity within).1 in
    let there_is = meets.within t in
    omega (arith, ints)
load_sound _ sets t values met within meets = met
