-- The rule `energy`: on sets where it is met, no choice of one value from each set meets the constraint.
use Rattle.std.proofs.Common.{◌≡◌, ℕ, zero, suc, ◌+◌, ◌*◌, ◌≤◌, List, [], ◌∷◌, Bool, true, false, cond, ◌&&◌, refl, ap, sym, ◌∙◌, subst, map, ℤ, pos, negsuc, ◌+ℤ◌, ◌-ℤ◌, ◌*ℤ◌, ◌≤ℤ◌, ◌<ℤ◌, int_lt, unsigned_abs, arith}
use Rattle.std.specs.Prelude.{int_le}
use Rattle.std.specs.Int.{int_min, int_max}
use Rattle.std.proofs.lemmas.Int.{ints, clamps}
use Rattle.std.proofs.Math.IntN.{pos-*ℤ-pos, *ℤ-zero, *ℤ_comm, suc_ℤ, suc_ℤ-*ℤ, +ℤ_comm, +ℤ_idl}
use Rattle.std.proofs.Math.Nat.{mul-le-mul}
use Rattle.fzn_domain.specs.IntSet.{IntSet}
use Rattle.fzn_domain.specs.Narrow.{IsWithin}
use Rattle.fzn_meaning.specs.declared.constraint.Constraint.{Constraint}
use Rattle.fzn_meaning.specs.declared.constraint.Constraint.TheVariants.{Cumulative}
use Rattle.fzn_values.specs.Cumulative.{Task, runs_at, use_at, load_at}
use Rattle.fzn_values.specs.Term.{term_value}
use Rattle.fzn_meaning.specs.Meaning.{Meets}
use Rattle.fzn_rules.specs.declared.task.TaskTerms.{TaskTerms}
use Rattle.fzn_sets.specs.Terms.{least_value, greatest_value}
use Rattle.fzn_rules.specs.Tasks.{task_terms, sum_over, least_use}
use Rattle.fzn_rules.specs.Energy.{overlap, least_overlap, least_energy, IsEnergyMet}
use Rattle.fzn_rules.proofs.TaskLemmas.{task_of, tasks-task_terms, IsNotNegative, AreNotNegative, chosen, plus_mono, sum_over-le}
use Rattle.fzn_sets.proofs.CallerLemmas.{term_between}

-- ---- products

mul_mono : (a b c d : ℤ) → pos 0 ≤ℤ a → a ≤ℤ c → pos 0 ≤ℤ b → b ≤ℤ d → (a *ℤ b) ≤ℤ (c *ℤ d)
mul_mono (pos a) (pos b) (pos c) (pos d) za p zb q =
    let l : a * b ≤ c * d = mul-le-mul (omega (arith, ints)) (omega (arith, ints)) in
    rw (pos-*ℤ-pos a b, pos-*ℤ-pos c d) (omega (arith, ints))
mul_mono (negsuc a) b c d za p zb q = absurd (omega (arith, ints))
mul_mono (pos a) (negsuc b) c d za p zb q = absurd (omega (arith, ints))
mul_mono (pos a) (pos b) (negsuc c) d za p zb q = absurd (omega (arith, ints))
mul_mono (pos a) (pos b) (pos c) (negsuc d) za p zb q = absurd (omega (arith, ints))

-- one more time, and one more factor
times_more : (r o : ℤ) → r *ℤ (pos 1 +ℤ o) ≡ r +ℤ r *ℤ o
times_more r o = *ℤ_comm r (pos 1 +ℤ o) ∙ ap (λ x. x *ℤ r) (next o) ∙ suc_ℤ-*ℤ o r ∙ ap (λ x. x +ℤ r) (*ℤ_comm o r) ∙ +ℤ_comm (r *ℤ o) r
  where
    next : (o : ℤ) → pos 1 +ℤ o ≡ suc_ℤ o
    next (pos n) = let e : 1 + n ≡ suc n = omega arith in ap pos e
    next (negsuc zero) = refl
    next (negsuc (suc n)) = omega (arith, ints)

-- ---- what the tasks use between two times

abbrev energy_at : ℤ → ℤ → Task → ℤ
energy_at from until task = task.uses *ℤ overlap from until task.start task.duration

abbrev energy : ℤ → ℤ → List Task → ℤ
energy from until [] = pos 0
energy from until (task ∷ rest) = energy_at from until task +ℤ energy from until rest

-- an overlap is not negative, and is least at an end of the starts and for the shortest duration
overlap_not_negative : (from until start duration : ℤ) → pos 0 ≤ℤ overlap from until start duration
overlap_not_negative from until start duration = omega (arith, ints, clamps)

min_not_negative : (a b : ℤ) → pos 0 ≤ℤ a → pos 0 ≤ℤ b → pos 0 ≤ℤ int_min a b
min_not_negative a b p q = omega (arith, ints, clamps)

overlap_least : (from until low high shortest start duration : ℤ) → low ≤ℤ start → start ≤ℤ high → shortest ≤ℤ duration → int_min (overlap from until low shortest) (overlap from until high shortest) ≤ℤ overlap from until start duration
overlap_least from until low high shortest start duration p q w = omega (arith, ints, clamps)

use_not_negative : (r : ℤ) → pos 0 ≤ℤ int_max (pos 0) r
use_not_negative r = omega (arith, ints, clamps)

use_below : (r need : ℤ) → r ≤ℤ need → pos 0 ≤ℤ need → int_max (pos 0) r ≤ℤ need
use_below r need p q = omega (arith, ints, clamps)

least_energy-le : (sets : List IntSet) (values : List ℤ) (from until : ℤ) (task : TaskTerms) → IsWithin sets values → IsNotNegative (task_of values task) → least_energy sets from until task ≤ℤ energy_at from until (task_of values task)
unfolding least_energy
least_energy-le sets values from until task within ok =
    let start = term_between sets values task.start within in
    mul_mono (least_use sets task) (least_overlap sets from until task) (term_value values task.uses) (overlap from until (term_value values task.start) (term_value values task.duration))
    (use_not_negative (least_value sets task.uses)) (use_below (least_value sets task.uses) (term_value values task.uses) (term_between sets values task.uses within).0 ok.uses)
    (min_not_negative (overlap from until (least_value sets task.start) (least_value sets task.duration)) (overlap from until (greatest_value sets task.start) (least_value sets task.duration))
    (overlap_not_negative from until (least_value sets task.start) (least_value sets task.duration)) (overlap_not_negative from until (greatest_value sets task.start) (least_value sets task.duration)))
    (overlap_least from until (least_value sets task.start) (greatest_value sets task.start) (least_value sets task.duration) (term_value values task.start) (term_value values task.duration)
    start.0 start.1 (term_between sets values task.duration within).0)

-- ---- one time after another

-- the overlap with a time and with what comes after it
overlap_first : (t : ℤ) (m : ℕ) (start duration : ℤ) → pos 0 ≤ℤ duration → overlap t (t +ℤ pos (suc m)) start duration ≡ cond (int_le start t && int_lt t (start +ℤ duration)) (pos 1) (pos 0) +ℤ overlap (t +ℤ pos 1) ((t +ℤ pos 1) +ℤ pos m) start duration
overlap_first t m start duration h = grind (arith, ints)

overlap_none : (t start duration : ℤ) → overlap t (t +ℤ pos 0) start duration ≡ pos 0
overlap_none t start duration = grind (arith, ints)

use_first : (b : Bool) (r o : ℤ) → r *ℤ (cond b (pos 1) (pos 0) +ℤ o) ≡ cond b r (pos 0) +ℤ r *ℤ o
use_first true r o = times_more r o
use_first false r o = rw (+ℤ_idl o, +ℤ_idl (r *ℤ o))

regroup : (a b c d e f : ℤ) → a ≡ c +ℤ d → b ≡ e +ℤ f → a +ℤ b ≡ (c +ℤ e) +ℤ (d +ℤ f)
regroup a b c d e f p q = omega (arith, ints)

energy-first : (t : ℤ) (m : ℕ) (ts : List Task) → AreNotNegative ts → energy t (t +ℤ pos (suc m)) ts ≡ load_at t ts +ℤ energy (t +ℤ pos 1) ((t +ℤ pos 1) +ℤ pos m) ts
energy-first t m [] ok = refl
energy-first t m (x ∷ xs) ok =
    regroup (energy_at t (t +ℤ pos (suc m)) x) (energy t (t +ℤ pos (suc m)) xs) (use_at t x) (energy_at (t +ℤ pos 1) ((t +ℤ pos 1) +ℤ pos m) x) (load_at t xs) (energy (t +ℤ pos 1) ((t +ℤ pos 1) +ℤ pos m) xs)
    (ap (λ o. x.uses *ℤ o) (overlap_first t m x.start x.duration ok.0.duration) ∙ use_first (runs_at t x) x.uses (overlap (t +ℤ pos 1) ((t +ℤ pos 1) +ℤ pos m) x.start x.duration))
    (energy-first t m xs ok.1)

energy-none : (t : ℤ) (ts : List Task) → energy t (t +ℤ pos 0) ts ≡ pos 0
energy-none t [] = refl
energy-none t (x ∷ xs) = rw (overlap_none t x.start x.duration, *ℤ-zero x.uses, energy-none t xs)

≤ℤ_same : (a : ℤ) → a ≤ℤ a
≤ℤ_same a = omega (arith, ints)

-- over m times the tasks use at most m times the capacity
energy-most : (ts : List Task) (b : ℤ) → AreNotNegative ts → ((t : ℤ) → load_at t ts ≤ℤ b) → (m : ℕ) (t : ℤ) → energy t (t +ℤ pos m) ts ≤ℤ (b *ℤ pos m)
energy-most ts b ok within zero t = rw (energy-none t ts, *ℤ-zero b) (≤ℤ_same (pos 0))
energy-most ts b ok within (suc m) t =
    rw (energy-first t m ts ok, one_more b m) (plus_mono (load_at t ts) b (energy (t +ℤ pos 1) ((t +ℤ pos 1) +ℤ pos m) ts) (b *ℤ pos m) (within t) (energy-most ts b ok within m (t +ℤ pos 1)))
  where
    split : (m : ℕ) → pos (suc m) ≡ pos 1 +ℤ pos m
    split m = omega (arith, ints)

    one_more : (b : ℤ) (m : ℕ) → b *ℤ pos (suc m) ≡ b +ℤ b *ℤ pos m
    one_more b m = ap (λ x. b *ℤ x) (split m) ∙ times_more b (pos m)

between : (from until : ℤ) → from <ℤ until → until ≡ from +ℤ pos (unsigned_abs (until -ℤ from))
between from until h = grind (arith, ints)

times_between : (from until : ℤ) → from <ℤ until → until -ℤ from ≡ pos (unsigned_abs (until -ℤ from))
times_between from until h = grind (arith, ints)

energy_between : (ts : List Task) (b from until : ℤ) → AreNotNegative ts → ((t : ℤ) → load_at t ts ≤ℤ b) → from <ℤ until → energy from until ts ≤ℤ (b *ℤ (until -ℤ from))
energy_between ts b from until ok within in_order =
    subst (λ x. energy from x ts ≤ℤ (b *ℤ (until -ℤ from))) (sym (between from until in_order))
    (subst (λ x. energy from (from +ℤ pos (unsigned_abs (until -ℤ from))) ts ≤ℤ (b *ℤ x)) (sym (times_between from until in_order)) (energy-most ts b ok within (unsigned_abs (until -ℤ from)) from))

-- ---- the rule

later : (from until : ℤ) → from <ℤ until → pos 0 ≤ℤ (until -ℤ from)
later from until p = omega (arith, ints)

not_all : (g l u b : ℤ) → g <ℤ l → l ≤ℤ u → u ≤ℤ b → b ≤ℤ g → ⊥
not_all g l u b p q w z = omega (arith, ints)

pub energy_sound : (constraint : Constraint) (sets : List IntSet) (from until : ℤ) (values : List ℤ) → IsEnergyMet constraint sets from until → IsWithin sets values → Meets constraint values → ⊥
unfolding IsEnergyMet Meets
energy_sound (Cumulative starts durations uses capacity) sets from until values met within meets =
    let ok : AreNotNegative (map (task_of values) (task_terms starts durations uses)) = chosen values starts durations uses (term_value values capacity) meets in
    let loads : (t : ℤ) → load_at t (map (task_of values) (task_terms starts durations uses)) ≤ℤ term_value values capacity = λ t. subst (λ xs. load_at t xs ≤ℤ term_value values capacity) (tasks-task_terms values starts durations uses) (meets.within t) in
    not_all (greatest_value sets capacity *ℤ (until -ℤ from)) (sum_over (least_energy sets from until) (task_terms starts durations uses)) (energy from until (map (task_of values) (task_terms starts durations uses))) (term_value values capacity *ℤ (until -ℤ from)) met.excess
    (sum_over-le values (least_energy sets from until) (energy from until) (energy_at from until) refl (λ task rest. refl) (λ task fine. least_energy-le sets values from until task within fine) (task_terms starts durations uses) ok)
    (energy_between (map (task_of values) (task_terms starts durations uses)) (term_value values capacity) from until ok loads met.in_order)
    (mul_mono (term_value values capacity) (until -ℤ from) (greatest_value sets capacity) (until -ℤ from) meets.capacity_not_negative (term_between sets values capacity within).1 (later from until met.in_order) (≤ℤ_same (until -ℤ from)))
energy_sound _ sets from until values met within meets = met
