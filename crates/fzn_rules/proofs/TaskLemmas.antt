-- Sums over tasks, and the tasks at values.
use Rattle.std.proofs.Common.{◌≡◌, ℕ, zero, suc, ◌+◌, ◌<◌, ◌≤◌, List, [], ◌∷◌, length, get_or, take, map, refl, ap, subst, arith, add-one, ℤ, pos, ◌+ℤ◌, ◌≤ℤ◌}
use Rattle.std.specs.List.{AllByRecursion}
use Rattle.std.proofs.lemmas.Int.{ints}
use Rattle.std.proofs.lemmas.List.{take_all}
use Rattle.std.proofs.lemmas.List.Elements.{recursion_from_All}
use Rattle.fzn_values.specs.declared.term.Term.{Term}
use Rattle.fzn_values.specs.Cumulative.{Task, tasks, IsCumulative}
use Rattle.fzn_values.specs.Term.{term_value, values_of}
use Rattle.fzn_rules.specs.declared.task.TaskTerms.{TaskTerms}
use Rattle.fzn_rules.specs.Tasks.{task_terms, sum_over}

length-task_terms : (ss ds rs : List Term) → length ds ≡ length ss → length rs ≡ length ss → length (task_terms ss ds rs) ≡ length ss
length-task_terms [] ds rs p q = refl
length-task_terms (s ∷ ss) [] rs p q = absurd (omega arith)
length-task_terms (s ∷ ss) (d ∷ ds) [] p q = absurd (omega arith)
length-task_terms (s ∷ ss) (d ∷ ds) (r ∷ rs) p q = let e = length-task_terms ss ds rs (omega arith) (omega arith) in omega arith

-- the first tasks, one more
sum_over-take : (give : TaskTerms → ℤ) (ss ds rs : List Term) (k : ℕ) (d : Term) → length ds ≡ length ss → length rs ≡ length ss → k < length ss → sum_over give (take (suc k) (task_terms ss ds rs)) ≡ sum_over give (take k (task_terms ss ds rs)) +ℤ give (record { start = get_or ss k d; duration = get_or ds k d; uses = get_or rs k d })
sum_over-take give [] ds rs k x p q below = absurd (omega arith)
sum_over-take give (s ∷ ss) [] rs k x p q below = absurd (omega arith)
sum_over-take give (s ∷ ss) (d ∷ ds) [] k x p q below = absurd (omega arith)
sum_over-take give (s ∷ ss) (d ∷ ds) (r ∷ rs) zero x p q below = omega (arith, ints)
sum_over-take give (s ∷ ss) (d ∷ ds) (r ∷ rs) (suc k) x p q below =
    let rest = sum_over-take give ss ds rs k x (omega arith) (omega arith) (omega arith) in
    omega (arith, ints)

pub sum_over-more : (give : TaskTerms → ℤ) (ss ds rs : List Term) (k : ℕ) (d : Term) (before more : ℤ) → length ds ≡ length ss → length rs ≡ length ss → k < length ss → before ≡ sum_over give (take k (task_terms ss ds rs)) → more ≡ give (record { start = get_or ss k d; duration = get_or ds k d; uses = get_or rs k d }) → before +ℤ more ≡ sum_over give (take (k + 1) (task_terms ss ds rs))
sum_over-more give ss ds rs k d before more p q below so_far one = rw (add-one, sum_over-take give ss ds rs k d p q below, so_far, one)

-- all of them
pub sum_over-all : (give : TaskTerms → ℤ) (ss ds rs : List Term) (k : ℕ) → length ds ≡ length ss → length rs ≡ length ss → length ss ≤ k → sum_over give (take k (task_terms ss ds rs)) ≡ sum_over give (task_terms ss ds rs)
sum_over-all give ss ds rs k p q all = ap (sum_over give) (take_all k (task_terms ss ds rs) (omega (arith, length-task_terms ss ds rs p q)))

-- ---- the tasks at values

-- the task where its terms have these values
abbrev pub task_of : List ℤ → TaskTerms → Task
task_of values task = record { start = term_value values task.start; duration = term_value values task.duration; uses = term_value values task.uses }

pub tasks-task_terms : (values : List ℤ) (ss ds rs : List Term) → tasks (values_of values ss) (values_of values ds) (values_of values rs) ≡ map (task_of values) (task_terms ss ds rs)
tasks-task_terms values [] ds rs = refl
tasks-task_terms values (s ∷ ss) [] rs = refl
tasks-task_terms values (s ∷ ss) (d ∷ ds) [] = refl
tasks-task_terms values (s ∷ ss) (d ∷ ds) (r ∷ rs) = ap (λ (rest : List Task). task_of values (record { start = s; duration = d; uses = r }) ∷ rest) (tasks-task_terms values ss ds rs)

-- neither the duration nor the use is below 0
pub record IsNotNegative (task : Task) : Type 0 where
  pub duration : pos 0 ≤ℤ task.duration
  pub uses : pos 0 ≤ℤ task.uses

abbrev pub AreNotNegative : List Task → Type 0
AreNotNegative chosen = AllByRecursion IsNotNegative chosen

pub not_negative : (ss ds rs : List ℤ) → AllByRecursion (λ x. pos 0 ≤ℤ x) ds → AllByRecursion (λ x. pos 0 ≤ℤ x) rs → AreNotNegative (tasks ss ds rs)
not_negative [] ds rs p q = tt
not_negative (s ∷ ss) [] rs p q = tt
not_negative (s ∷ ss) (d ∷ ds) [] p q = tt
not_negative (s ∷ ss) (d ∷ ds) (r ∷ rs) p q = (record { duration = p.0; uses = q.0 }, not_negative ss ds rs p.1 q.1)

-- the tasks of a choice are not negative where it is cumulative
pub chosen : (values : List ℤ) (starts durations uses : List Term) (capacity : ℤ) → IsCumulative (values_of values starts) (values_of values durations) (values_of values uses) capacity → AreNotNegative (map (task_of values) (task_terms starts durations uses))
chosen values starts durations uses capacity meets =
    subst AreNotNegative (tasks-task_terms values starts durations uses)
    (not_negative (values_of values starts) (values_of values durations) (values_of values uses) (recursion_from_All (λ x. pos 0 ≤ℤ x) (values_of values durations) meets.durations_not_negative) (recursion_from_All (λ x. pos 0 ≤ℤ x) (values_of values uses) meets.uses_not_negative))

pub plus_mono : (a b c d : ℤ) → a ≤ℤ b → c ≤ℤ d → (a +ℤ c) ≤ℤ (b +ℤ d)
plus_mono a b c d p q = omega (arith, ints)

-- what each gives at least sums to no more
pub sum_over-le : (values : List ℤ) (least : TaskTerms → ℤ) (total : List Task → ℤ) (of : Task → ℤ) → total [] ≡ pos 0 → ((task : Task) (rest : List Task) → total (task ∷ rest) ≡ of task +ℤ total rest) → ((task : TaskTerms) → IsNotNegative (task_of values task) → least task ≤ℤ of (task_of values task)) → (ts : List TaskTerms) → AreNotNegative (map (task_of values) ts) → sum_over least ts ≤ℤ total (map (task_of values) ts)
sum_over-le values least total of none more each [] ok = rw none (omega (arith, ints))
sum_over-le values least total of none more each (t ∷ ts) ok = rw (more (task_of values t) (map (task_of values) ts)) (plus_mono (least t) (of (task_of values t)) (sum_over least ts) (total (map (task_of values) ts)) (each t ok.0) (sum_over-le values least total of none more each ts ok.1))
