-- What tasks use at a time, task by task.
use Rattle.std.proofs.Common.{◌≡◌, ◌≢◌, ℕ, zero, suc, ◌+◌, ◌<◌, ◌≤◌, true, cond, ◌&&◌, List, [], ◌∷◌, length, get_or, take, refl, sym, ap, subst, arith, add-one, ℤ, pos, ◌+ℤ◌, ◌-ℤ◌, ◌≤ℤ◌, ◌<ℤ◌, int_lt, int_le, w64, to_z, of_z}
use Rattle.std.specs.Int.{int_max}
use Rattle.std.proofs.lemmas.Int.{ints}
use Rattle.std.proofs.lemmas.List.{take_all}
use Rattle.fzn_domain.specs.declared.literal.Lit.{Lit}
use Rattle.fzn_domain.specs.declared.literal.Op.TheVariants.{AtMost}
use Rattle.fzn_domain.specs.IntSet.{IntSet}
use Rattle.fzn_domain.specs.Limits.{IsInLimits}
use Rattle.fzn_values.specs.declared.term.Term.{Term}
use Rattle.fzn_values.specs.Term.{IsTerm}
use Rattle.fzn_rules.specs.declared.rule.Rule.TheVariants.{Load}
use Rattle.fzn_rules.specs.Rules.{IsMet}
use Rattle.fzn_sets.specs.Terms.{least_value, greatest_value}
use Rattle.fzn_sets.proofs.ValueLemmas.{MayBe-ends}
use Rattle.fzn_rules.specs.Load.{IsLoadMet}
use Rattle.fzn_trail.specs.Levels.{Levels}
use Rattle.fzn_propagator.specs.Clause.{IsJustified}
use Rattle.fzn_terms.specs.declared.claim.Claim.{Claim}
use Rattle.fzn_terms.specs.Denied.{that, IsClaimExplained, IsGrown, AreEntailedBut}
use Rattle.fzn_cumulative.specs.declared.tasks.Tasks.{Tasks}
use Rattle.fzn_cumulative.specs.Loads.{AreReady, cumulative_of, IsTime, least_use_of, total_of, total_but, IsUseExplained, AreExplained, HasNoMore, start_at, duration_at, uses_at}
use Rattle.fzn_cumulative.specs.Claims.{task_claims, use_claims, IsLeast}
use Rattle.fzn_cumulative.proofs.ClaimLemmas.{task_same, task_said, AreWithin}
use Rattle.fzn_propagator.proofs.CallerLemmas.{forcing_of_false, justified_where}
use Rattle.fzn_terms.proofs.OrderLemmas.{at_most, le_trans, step_more, step_spare, wider}

module _ (sets : List IntSet) (t : ℤ) where
  total-take : (ss ds rs : List Term) (k : ℕ) (x : Term) → length ds ≡ length ss → length rs ≡ length ss → k < length ss → total_of sets t (take (suc k) ss) (take (suc k) ds) (take (suc k) rs) ≡ total_of sets t (take k ss) (take k ds) (take k rs) +ℤ least_use_of sets t (get_or ss k x) (get_or ds k x) (get_or rs k x)
  total-take [] ds rs k x p q below = absurd (omega arith)
  total-take (s ∷ ss) [] rs k x p q below = absurd (omega arith)
  total-take (s ∷ ss) (d ∷ ds) [] k x p q below = absurd (omega arith)
  total-take (s ∷ ss) (d ∷ ds) (r ∷ rs) zero x p q below = omega (arith, ints)
  total-take (s ∷ ss) (d ∷ ds) (r ∷ rs) (suc k) x p q below =
      let rest = total-take ss ds rs k x (omega arith) (omega arith) (omega arith) in
      omega (arith, ints)

  pub total-more : (ss ds rs : List Term) (k : ℕ) (x : Term) → length ds ≡ length ss → length rs ≡ length ss → k < length ss → total_of sets t (take (k + 1) ss) (take (k + 1) ds) (take (k + 1) rs) ≡ total_of sets t (take k ss) (take k ds) (take k rs) +ℤ least_use_of sets t (get_or ss k x) (get_or ds k x) (get_or rs k x)
  total-more ss ds rs k x p q below = rw add-one (total-take ss ds rs k x p q below)

  -- one more task, but for the one at an index
  but-take : (ss ds rs : List Term) (k e : ℕ) (x : Term) → length ds ≡ length ss → length rs ≡ length ss → k < length ss → k ≢ e → total_but e sets t (take (suc k) ss) (take (suc k) ds) (take (suc k) rs) ≡ total_but e sets t (take k ss) (take k ds) (take k rs) +ℤ least_use_of sets t (get_or ss k x) (get_or ds k x) (get_or rs k x)
  but-take [] ds rs k e x p q below apart = absurd (omega arith)
  but-take (s ∷ ss) [] rs k e x p q below apart = absurd (omega arith)
  but-take (s ∷ ss) (d ∷ ds) [] k e x p q below apart = absurd (omega arith)
  but-take (s ∷ ss) (d ∷ ds) (r ∷ rs) zero zero x p q below apart = absurd (apart refl)
  but-take (s ∷ ss) (d ∷ ds) (r ∷ rs) zero (suc e) x p q below apart = omega (arith, ints)
  but-take (s ∷ ss) (d ∷ ds) (r ∷ rs) (suc k) zero x p q below apart = total-take ss ds rs k x (omega arith) (omega arith) (omega arith)
  but-take (s ∷ ss) (d ∷ ds) (r ∷ rs) (suc k) (suc e) x p q below apart =
      let rest = but-take ss ds rs k e x (omega arith) (omega arith) (omega arith) (λ same. apart (ap (λ n. suc n) same)) in
      omega (arith, ints)

  but-skip : (ss ds rs : List Term) (k : ℕ) → length ds ≡ length ss → length rs ≡ length ss → k < length ss → total_but k sets t (take (suc k) ss) (take (suc k) ds) (take (suc k) rs) ≡ total_but k sets t (take k ss) (take k ds) (take k rs)
  but-skip [] ds rs k p q below = absurd (omega arith)
  but-skip (s ∷ ss) [] rs k p q below = absurd (omega arith)
  but-skip (s ∷ ss) (d ∷ ds) [] k p q below = absurd (omega arith)
  but-skip (s ∷ ss) (d ∷ ds) (r ∷ rs) zero p q below = refl
  but-skip (s ∷ ss) (d ∷ ds) (r ∷ rs) (suc k) p q below =
      let rest = but-skip ss ds rs k (omega arith) (omega arith) (omega arith) in
      omega (arith, ints)

  -- an index past the end leaves none out
  pub but-none : (ss ds rs : List Term) (e : ℕ) → length ds ≡ length ss → length rs ≡ length ss → length ss ≤ e → total_but e sets t ss ds rs ≡ total_of sets t ss ds rs
  but-none [] ds rs e p q past = refl
  but-none (s ∷ ss) [] rs e p q past = absurd (omega arith)
  but-none (s ∷ ss) (d ∷ ds) [] e p q past = absurd (omega arith)
  but-none (s ∷ ss) (d ∷ ds) (r ∷ rs) zero p q past = absurd (omega arith)
  but-none (s ∷ ss) (d ∷ ds) (r ∷ rs) (suc e) p q past =
      let rest = but-none ss ds rs e (omega arith) (omega arith) (omega arith) in
      omega (arith, ints)

  -- the one that is left out, and the others
  pub but-one : (ss ds rs : List Term) (e : ℕ) (x : Term) → length ds ≡ length ss → length rs ≡ length ss → e < length ss → total_of sets t ss ds rs ≡ total_but e sets t ss ds rs +ℤ least_use_of sets t (get_or ss e x) (get_or ds e x) (get_or rs e x)
  but-one [] ds rs e x p q below = absurd (omega arith)
  but-one (s ∷ ss) [] rs e x p q below = absurd (omega arith)
  but-one (s ∷ ss) (d ∷ ds) [] e x p q below = absurd (omega arith)
  but-one (s ∷ ss) (d ∷ ds) (r ∷ rs) zero x p q below = omega (arith, ints)
  but-one (s ∷ ss) (d ∷ ds) (r ∷ rs) (suc e) x p q below =
      let rest = but-one ss ds rs e x (omega arith) (omega arith) (omega arith) in
      omega (arith, ints)

time_is : (t : ℤ) → IsTime t → to_z w64 (of_z w64 t) ≡ t
time_is t time = omega (arith, ints, time.0, time.1)

pub least_is : (n : ℤ) → IsLeast n → to_z w64 (of_z w64 n) ≡ n
least_is n least = omega (arith, ints, least.0, least.1)

pub earliest_is : (t s : ℤ) → IsTime t → IsLeast s → to_z w64 (of_z w64 (to_z w64 (of_z w64 (to_z w64 (of_z w64 t) -ℤ to_z w64 (of_z w64 s))) +ℤ pos 1)) ≡ (t -ℤ s) +ℤ pos 1
earliest_is t s time long = omega (arith, ints, time.0, time.1, long.0, long.1)

-- how the code computes the numbers of the claims
pub claims_are : (start duration uses : Term) (t s u : ℤ) (claims : List Claim) → IsTime t → IsLeast s → IsLeast u → claims ≡ task_claims start duration uses (to_z w64 (of_z w64 t)) (to_z w64 (of_z w64 (to_z w64 (of_z w64 (to_z w64 (of_z w64 t) -ℤ to_z w64 (of_z w64 s))) +ℤ pos 1))) (to_z w64 (of_z w64 s)) (to_z w64 (of_z w64 u)) → claims ≡ task_claims start duration uses t ((t -ℤ s) +ℤ pos 1) s u
claims_are start duration uses t s u claims time long near is =
    task_same start duration uses _ _ _ _ t _ s u claims is (time_is t time) (earliest_is t s time long) (least_is s long) (least_is u near)

pub limits_least : (n : ℤ) → IsInLimits n → IsLeast n
limits_least n limits = (omega (arith, ints, limits.0, limits.1), omega (arith, ints, limits.0, limits.1))

pub run_parts : (high t low s : ℤ) → (int_le high t && int_lt t (low +ℤ s)) ≡ true → (high ≤ℤ t) × (((t -ℤ s) +ℤ pos 1) ≤ℤ low)
run_parts high t low s h = (grind (arith, ints), grind (arith, ints))

uses_full : (t high low s shortest u lowest : ℤ) → high ≤ℤ t → ((t -ℤ s) +ℤ pos 1) ≤ℤ low → s ≤ℤ shortest → u ≤ℤ lowest → int_max (pos 0) u ≤ℤ cond (int_le high t && int_lt t (low +ℤ shortest)) (int_max (pos 0) lowest) (pos 0)
uses_full t high low s shortest u lowest a b c d = grind (arith, ints)

-- where a task is so, it runs at the time and uses so much
pub use_full : (sets : List IntSet) (start duration uses : Term) (t s u : ℤ) → AreWithin sets start duration uses t ((t -ℤ s) +ℤ pos 1) s u → int_max (pos 0) u ≤ℤ least_use_of sets t start duration uses
use_full sets start duration uses t s u within = uses_full t (greatest_value sets start) (least_value sets start) s (least_value sets duration) u (least_value sets uses) within.no_later within.no_sooner within.no_shorter within.no_less

use_most : (high t low s u : ℤ) → cond (int_le high t && int_lt t (low +ℤ s)) (int_max (pos 0) u) (pos 0) ≤ℤ int_max (pos 0) u
use_most high t low s u = grind (arith, ints)

-- so it uses no less than on the trail
pub use_explained : (trail : Levels) (tasks : Tasks) (t : ℤ) (k : ℕ) (old new : List Lit) → AreReady (length trail.declared) tasks → k < length tasks.starts → IsGrown trail (AreEntailedBut 4 (use_claims tasks k t (least_value trail.sets (duration_at tasks k)) (least_value trail.sets (uses_at tasks k)))) old new → IsUseExplained trail t (start_at tasks k) (duration_at tasks k) (uses_at tasks k) old new
use_explained trail tasks t k old new ready inside said = record {
  still = said.still;
  keeps = said.keeps;
  says = λ sets left.
      le_trans _ _ _ (use_most (greatest_value trail.sets (start_at tasks k)) t (least_value trail.sets (start_at tasks k)) (least_value trail.sets (duration_at tasks k)) (least_value trail.sets (uses_at tasks k)))
      (use_full sets (start_at tasks k) (duration_at tasks k) (uses_at tasks k) t (least_value trail.sets (duration_at tasks k)) (least_value trail.sets (uses_at tasks k))
      (task_said tasks k _ _ _ _ trail new sets left ready inside (λ x any below. said.says sets left x any below (omega arith))));
}

-- ---- the loop over the tasks

use_not_negative : (x y u s t : ℤ) → pos 0 ≤ℤ cond (int_le x t && int_lt t (y +ℤ s)) (int_max (pos 0) u) (pos 0)
use_not_negative x y u s t = grind (arith, ints)

module _ (trail : Levels) (t : ℤ) (e : ℕ) (ss ds rs : List Term) (k : ℕ) (x : Term) (same_d : length ds ≡ length ss) (same_r : length rs ≡ length ss) (below : k < length ss) (old : List Lit) where
  -- a task that is explained
  pub explained_more : (spare : ℤ) (clause new : List Lit) → k ≢ e → AreExplained trail t e spare (take k ss) (take k ds) (take k rs) old clause → IsUseExplained trail t (get_or ss k x) (get_or ds k x) (get_or rs k x) clause new → AreExplained trail t e spare (take (k + 1) ss) (take (k + 1) ds) (take (k + 1) rs) old new
  explained_more spare clause new apart before used = record {
    still = used.still;
    keeps = λ sets left. before.keeps sets (used.keeps sets left);
    says = λ sets left.
        rw (add-one, but-take trail.sets t ss ds rs k e x same_d same_r below apart, but-take sets t ss ds rs k e x same_d same_r below apart)
        (step_more _ _ spare _ _ (before.says sets (used.keeps sets left)) (used.says sets left));
  }

  -- one that is left out
  pub explained_spare : (spare : ℤ) (clause : List Lit) → k ≢ e → AreExplained trail t e spare (take k ss) (take k ds) (take k rs) old clause → AreExplained trail t e (spare +ℤ least_use_of trail.sets t (get_or ss k x) (get_or ds k x) (get_or rs k x)) (take (k + 1) ss) (take (k + 1) ds) (take (k + 1) rs) old clause
  explained_spare spare clause apart before = record {
    still = before.still;
    keeps = before.keeps;
    says = λ sets left.
        rw (add-one, but-take trail.sets t ss ds rs k e x same_d same_r below apart, but-take sets t ss ds rs k e x same_d same_r below apart)
        (step_spare _ _ spare _ _ (before.says sets left)
        (use_not_negative (greatest_value sets (get_or ss k x)) (least_value sets (get_or ss k x)) (least_value sets (get_or rs k x)) (least_value sets (get_or ds k x)) t));
  }

  -- the one at the index
  pub explained_same : (spare : ℤ) (clause : List Lit) → k ≡ e → AreExplained trail t e spare (take k ss) (take k ds) (take k rs) old clause → AreExplained trail t e spare (take (k + 1) ss) (take (k + 1) ds) (take (k + 1) rs) old clause
  explained_same spare clause is before = record {
    still = before.still;
    keeps = before.keeps;
    says = λ sets left.
        subst (λ (n : ℕ). total_but n trail.sets t (take (k + 1) ss) (take (k + 1) ds) (take (k + 1) rs) ≤ℤ (total_but n sets t (take (k + 1) ss) (take (k + 1) ds) (take (k + 1) rs) +ℤ spare)) is
        (rw (add-one, but-skip trail.sets t ss ds rs k same_d same_r below, but-skip sets t ss ds rs k same_d same_r below)
        (subst (λ (n : ℕ). total_but n trail.sets t (take k ss) (take k ds) (take k rs) ≤ℤ (total_but n sets t (take k ss) (take k ds) (take k rs) +ℤ spare)) (sym is) (before.says sets left)));
  }

plus_low : (a b : ℤ) → pos 0 ≤ℤ a → pos 0 ≤ℤ b → pos 0 ≤ℤ (a +ℤ b)
plus_low a b p q = omega (arith, ints)

total-low : (sets : List IntSet) (t : ℤ) (ss ds rs : List Term) → pos 0 ≤ℤ total_of sets t ss ds rs
total-low sets t [] ds rs = omega (arith, ints)
total-low sets t (s ∷ ss) [] rs = omega (arith, ints)
total-low sets t (s ∷ ss) (d ∷ ds) [] = omega (arith, ints)
total-low sets t (s ∷ ss) (d ∷ ds) (r ∷ rs) =
    plus_low _ _ (use_not_negative (greatest_value sets s) (least_value sets s) (least_value sets r) (least_value sets d) t) (total-low sets t ss ds rs)

-- the others use no less than nothing
pub but-low : (sets : List IntSet) (t : ℤ) (e : ℕ) (ss ds rs : List Term) → pos 0 ≤ℤ total_but e sets t ss ds rs
but-low sets t e [] ds rs = omega (arith, ints)
but-low sets t e (s ∷ ss) [] rs = omega (arith, ints)
but-low sets t e (s ∷ ss) (d ∷ ds) [] = omega (arith, ints)
but-low sets t zero (s ∷ ss) (d ∷ ds) (r ∷ rs) = total-low sets t ss ds rs
but-low sets t (suc e) (s ∷ ss) (d ∷ ds) (r ∷ rs) =
    plus_low _ _ (use_not_negative (greatest_value sets s) (least_value sets s) (least_value sets r) (least_value sets d) t) (but-low sets t e ss ds rs)

-- less is left out
pub explained_wider : (trail : Levels) (t : ℤ) (e : ℕ) (a b : ℤ) (ss ds rs : List Term) (old new : List Lit) → a ≤ℤ b → AreExplained trail t e a ss ds rs old new → AreExplained trail t e b ss ds rs old new
explained_wider trail t e a b ss ds rs old new le before = record {
  still = before.still;
  keeps = before.keeps;
  says = λ sets left. wider (total_but e trail.sets t ss ds rs) (total_but e sets t ss ds rs) a b le (before.says sets left);
}

-- the whole lists
pub explained_all : (trail : Levels) (t : ℤ) (e k : ℕ) (spare : ℤ) (ss ds rs : List Term) (old new : List Lit) → length ds ≡ length ss → length rs ≡ length ss → length ss ≤ k → AreExplained trail t e spare (take k ss) (take k ds) (take k rs) old new → AreExplained trail t e spare ss ds rs old new
explained_all trail t e k spare ss ds rs old new p q past h =
    subst (λ (xs : List Term). AreExplained trail t e spare ss ds xs old new) (take_all k rs (omega arith))
    (subst (λ (xs : List Term). AreExplained trail t e spare ss xs (take k rs) old new) (take_all k ds (omega arith))
    (subst (λ (xs : List Term). AreExplained trail t e spare xs (take k ds) (take k rs) old new) (take_all k ss past) h))

-- ---- the rule

-- a clause that says no more than what the capacity may be
pub no_more : (trail : Levels) (tasks : Tasks) (capacity : ℤ) (new : List Lit) → IsTerm (length trail.declared) tasks.capacity → capacity ≡ greatest_value trail.sets tasks.capacity → (old : List Lit) → IsClaimExplained trail (that tasks.capacity AtMost capacity) old new → HasNoMore trail tasks new
no_more trail tasks capacity new fit is old said = record {
  still = said.still;
  says = λ sets left.
      let ends = MayBe-ends sets tasks.capacity left.filled (subst (λ (k : ℕ). IsTerm k tasks.capacity) (sym left.one_each) fit) in
      subst (λ (n : ℤ). greatest_value sets tasks.capacity ≤ℤ n) is (at_most (greatest_value sets tasks.capacity) capacity (said.says sets left (greatest_value sets tasks.capacity) ends.1));
}

over_of : (capacity load spare most total : ℤ) → most ≤ℤ capacity → load ≤ℤ (total +ℤ spare) → spare ≡ (load -ℤ capacity) -ℤ pos 1 → most <ℤ total
over_of capacity load spare most total a b e = omega (arith, ints)

pub load_inferred : (trail : Levels) (tasks : Tasks) (t spare : ℤ) (n : ℕ) (c1 c2 : List Lit) → AreReady (length trail.declared) tasks → length tasks.starts ≤ n → HasNoMore trail tasks c1 → AreExplained trail t n spare tasks.starts tasks.durations tasks.uses c1 c2 → spare ≡ (total_of trail.sets t tasks.starts tasks.durations tasks.uses -ℤ greatest_value trail.sets tasks.capacity) -ℤ pos 1 → IsJustified trail (cumulative_of tasks) (Load t) c2
unfolding IsMet IsLoadMet
load_inferred trail tasks t spare n c1 c2 ready all most explained is =
    justified_where trail (cumulative_of tasks) (Load t) c2 (forcing_of_false trail c2 explained.still) (λ sets left.
    let on_trail = but-none trail.sets t tasks.starts tasks.durations tasks.uses n ready.as_many_durations ready.as_many_uses all in
    let on_sets = but-none sets t tasks.starts tasks.durations tasks.uses n ready.as_many_durations ready.as_many_uses all in
    over_of (greatest_value trail.sets tasks.capacity) (total_of trail.sets t tasks.starts tasks.durations tasks.uses) spare (greatest_value sets tasks.capacity) (total_of sets t tasks.starts tasks.durations tasks.uses)
    (most.says sets (explained.keeps sets left))
    (subst (λ (a : ℤ). a ≤ℤ (total_of sets t tasks.starts tasks.durations tasks.uses +ℤ spare)) on_trail (subst (λ (b : ℤ). total_but n trail.sets t tasks.starts tasks.durations tasks.uses ≤ℤ (b +ℤ spare)) on_sets (explained.says sets left)))
    is)
