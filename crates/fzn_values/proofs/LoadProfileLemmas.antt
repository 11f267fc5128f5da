-- Times in order, the places among them, and what a change at a place does to the load.
use Rattle.std.proofs.Common.{◌≡◌, ℕ, zero, suc, ◌+◌, ◌*◌, ◌^◌, ◌<◌, ◌≤◌, Bool, true, false, cond, ◌&&◌, not, List, [], ◌∷◌, ◌++◌, length, get_or, set, take, replicate, refl, ap, sym, ◌∙◌, subst, inl, inr, ℤ, pos, ◌+ℤ◌, ◌≤ℤ◌, ◌<ℤ◌, neg_ℤ, int_lt, int_cmp, unsigned_abs, IsPermutation, add-one, arith}
use Rattle.std.specs.Prelude.{int_le}
use Rattle.std.specs.List.{All, AllPairs}
use Rattle.std.specs.List.Sorted.{IsSorted, IsPartitionedBy}
use Rattle.std.specs.Cmp.{int_cmp_total}
use Rattle.std.specs.Ordering.{is_lt}
use Rattle.std.proofs.lemmas.Int.{ints}
use Rattle.std.proofs.lemmas.Bool.{cases_lt, cases_order}
use Rattle.std.proofs.lemmas.List.{length-append, get_or_append_left}
use Rattle.std.proofs.lemmas.List.Elements.{All-set, All-from_get_or}
use Rattle.std.proofs.lemmas.List.Sorted.{sorted_far, ranks_by, All-permutation, IsPermutation-sym}
use Rattle.fzn_domain.specs.Ascending.{IsPlaceOf}
use Rattle.fzn_values.specs.Cumulative.{Task, tasks, load_at, use_at}
use Rattle.fzn_values.proofs.CumulativeLemmas.{load_at-more}
use Rattle.fzn_values.specs.LoadProfile.{load_after, IsProfile, IsChangedFrom, IsUsedBy, AreWithin, GrowBy}
use mir.Syntax.{w64, w128}
use mir.Val.{to_z, of_z, SFits}

-- ---- times in order

up_from_test : (x y : ℤ) → is_lt (int_cmp y x) ≡ false → x ≤ℤ y
up_from_test x y h = grind (arith, ints)

pub AllPairs-sorted : (times : List ℤ) → IsSorted int_cmp times → AllPairs ◌≤ℤ◌ times
AllPairs-sorted times up i j d lt within = up_from_test (get_or times i d) (get_or times j d) (sorted_far _ (ranks_by int_cmp_total (λ x. x)) times up i j d (omega arith) within)

below_test : (u v bound : ℤ) → u ≤ℤ v → int_lt v bound ≡ true → int_lt u bound ≡ true
below_test u v bound h e = grind (arith, ints)

-- what is before a time stands before the rest
pub before_first : (times : List ℤ) (time : ℤ) → AllPairs ◌≤ℤ◌ times → IsPartitionedBy (λ t. int_lt t time) times
before_first times time up i j d le within e = elim (cases_order i j) [
  | inl same ↦ ap (λ k. int_lt (get_or times k d) time) same ∙ e
  | inr (inl lt) ↦ below_test (get_or times i d) (get_or times j d) time (up i j d lt within) e
  | inr (inr gt) ↦ absurd (omega arith)
]

pub tested_before : (t time : ℤ) → int_lt t time ≡ true → t <ℤ time
tested_before t time e = omega (arith, ints)

pub tested_from : (t time : ℤ) → int_lt t time ≡ false → time ≤ℤ t
tested_from t time e = omega (arith, ints)

-- ---- one more change

load_after-later : (n p : ℕ) (xs : List ℤ) (x : ℤ) → n ≤ p → load_after n (set xs p x) ≡ load_after n xs
load_after-later n p [] x le = refl
load_after-later zero zero (y ∷ xs) x le = refl
load_after-later zero (suc p) (y ∷ xs) x le = refl
load_after-later (suc n) zero (y ∷ xs) x le = absurd (omega arith)
load_after-later (suc n) (suc p) (y ∷ xs) x le = ap (λ s. y +ℤ s) (load_after-later n p xs x (omega arith))

after : (a b c : ℤ) → a +ℤ (b +ℤ c) ≡ (a +ℤ b) +ℤ c
after a b c = omega (arith, ints)

regrouped : (y u s : ℤ) → (y +ℤ u) +ℤ s ≡ (y +ℤ s) +ℤ u
regrouped y u s = omega (arith, ints)

load_after-changed : (n p : ℕ) (xs : List ℤ) (u : ℤ) → p < n → p < length xs → load_after n (set xs p (get_or xs p (pos 0) +ℤ u)) ≡ load_after n xs +ℤ u
load_after-changed n p [] u lt within = absurd (omega arith)
load_after-changed zero p (y ∷ xs) u lt within = absurd (omega arith)
load_after-changed (suc n) zero (y ∷ xs) u lt within = regrouped y u (load_after n xs)
load_after-changed (suc n) (suc p) (y ∷ xs) u lt within =
    ap (λ s. y +ℤ s) (load_after-changed n p xs u (omega arith) (omega arith)) ∙ after y (load_after n xs) u

plus_zero : (a : ℤ) → a +ℤ pos 0 ≡ pos 0 +ℤ a
plus_zero a = omega (arith, ints)

load_after-suc : (n : ℕ) (xs : List ℤ) → n < length xs → load_after (suc n) xs ≡ load_after n xs +ℤ get_or xs n (pos 0)
load_after-suc n [] lt = absurd (omega arith)
load_after-suc zero (y ∷ []) lt = plus_zero y
load_after-suc zero (y ∷ z ∷ xs) lt = plus_zero y
load_after-suc (suc n) (y ∷ xs) lt = ap (λ s. y +ℤ s) (load_after-suc n xs (omega arith)) ∙ after y (load_after n xs) (get_or xs n (pos 0))

pub load_after-more : (n : ℕ) (xs : List ℤ) → n < length xs → load_after (n + 1) xs ≡ load_after n xs +ℤ get_or xs n (pos 0)
load_after-more n xs lt = rw add-one (load_after-suc n xs lt)

pub load_after-none : (n m : ℕ) → load_after n (replicate m (pos 0)) ≡ pos 0
load_after-none n zero = refl
load_after-none zero (suc m) = refl
load_after-none (suc n) (suc m) = zero_plus (load_after n (replicate m (pos 0))) ∙ load_after-none n m
  where
    zero_plus : (a : ℤ) → pos 0 +ℤ a ≡ a
    zero_plus a = omega (arith, ints)

from_here : (old new change time t : ℤ) → time ≤ℤ t → new ≡ old +ℤ change → new ≡ old +ℤ cond (int_le time t) change (pos 0)
from_here old new change time t le e = grind (arith, ints)

not_yet : (old new change time t : ℤ) → t <ℤ time → new ≡ old → new ≡ old +ℤ cond (int_le time t) change (pos 0)
not_yet old new change time t lt e = grind (arith, ints)

-- a change at the place of a time
pub IsChangedFrom-set : (times changes : List ℤ) (time change : ℤ) (p : ℕ) → length changes ≡ length times → p < length changes → IsPlaceOf times time p → IsChangedFrom time change times changes (set changes p (get_or changes p (pos 0) +ℤ change))
IsChangedFrom-set times changes time change p long at place k lt = elim (cases_lt k p) [
  | inl before ↦ not_yet (load_after (k + 1) changes) _ change time (get_or times k (pos 0)) (place.before k (pos 0) (omega arith) before) (load_after-later (k + 1) p changes (get_or changes p (pos 0) +ℤ change) (omega arith))
  | inr from ↦ from_here (load_after (k + 1) changes) _ change time (get_or times k (pos 0)) (place.after k (pos 0) from lt) (load_after-changed (k + 1) p changes change (omega arith) at)
]

-- ---- the two changes of a task

on_and_off : (old mid new u : ℤ) (on off : Bool) → (off ≡ true → on ≡ true) → mid ≡ old +ℤ cond on u (pos 0) → new ≡ mid +ℤ cond off (neg_ℤ u) (pos 0) → new ≡ old +ℤ cond (on && not off) u (pos 0)
on_and_off old mid new u true true h e f = omega (arith, ints)
on_and_off old mid new u true false h e f = omega (arith, ints)
on_and_off old mid new u false true h e f = absurd (cc (h refl))
on_and_off old mid new u false false h e f = omega (arith, ints)

int_lt-not : (s t : ℤ) → int_lt t s ≡ not (int_le s t)
int_lt-not s t = grind (arith, ints)

begun_before : (s d t : ℤ) → pos 0 ≤ℤ d → int_le (s +ℤ d) t ≡ true → int_le s t ≡ true
begun_before s d t low e = grind (arith, ints)

both_changes : (old mid new s d u t : ℤ) → pos 0 ≤ℤ d → mid ≡ old +ℤ cond (int_le s t) u (pos 0) → new ≡ mid +ℤ cond (int_le (s +ℤ d) t) (neg_ℤ u) (pos 0) → new ≡ old +ℤ cond (int_le s t && int_lt t (s +ℤ d)) u (pos 0)
both_changes old mid new s d u t low e f = rw (int_lt-not (s +ℤ d) t) (on_and_off old mid new u (int_le s t) (int_le (s +ℤ d) t) (begun_before s d t low) e f)

first_change : (old mid s d u t : ℤ) → t <ℤ (s +ℤ d) → mid ≡ old +ℤ cond (int_le s t) u (pos 0) → mid ≡ old +ℤ cond (int_le s t && int_lt t (s +ℤ d)) u (pos 0)
first_change old mid s d u t lt e = grind (arith, ints)

never_ended : (s d t : ℤ) → pos 0 ≤ℤ d → SFits w64 s → (SFits w64 (s +ℤ d) → ⊥) → SFits w64 t → t <ℤ (s +ℤ d)
never_ended s d t low fits not within = grind (arith, ints)

module _ (times old mid : List ℤ) (s d u : ℤ) (low : pos 0 ≤ℤ d) (started : IsChangedFrom s u times old mid) where
  pub IsUsedBy-ended : (new : List ℤ) → IsChangedFrom (s +ℤ d) (neg_ℤ u) times mid new → IsUsedBy (record { start = s; duration = d; uses = u }) times old new
  IsUsedBy-ended new ended k lt = both_changes (load_after (k + 1) old) (load_after (k + 1) mid) (load_after (k + 1) new) s d u (get_or times k (pos 0)) low (started k lt) (ended k lt)

  pub IsUsedBy-started : SFits w64 s → (SFits w64 (s +ℤ d) → ⊥) → All (SFits w64) times → IsUsedBy (record { start = s; duration = d; uses = u }) times old mid
  IsUsedBy-started fits late within k lt = first_change (load_after (k + 1) old) (load_after (k + 1) mid) s d u (get_or times k (pos 0)) (never_ended s d (get_or times k (pos 0)) low fits late (within k (pos 0) lt)) (started k lt)

-- ---- how great changes get

unsigned_abs-plus : (a b : ℤ) → unsigned_abs (a +ℤ b) ≤ unsigned_abs a + unsigned_abs b
unsigned_abs-plus a b = grind (arith, ints)

pub AreWithin-more : (m n : ℕ) (xs : List ℤ) → m ≤ n → AreWithin m xs → AreWithin n xs
AreWithin-more m n xs le h k d lt = omega (arith, h k d lt)

pub GrowBy-set : (xs : List ℤ) (p m : ℕ) (change : ℤ) → p < length xs → unsigned_abs change ≤ m → GrowBy m xs (set xs p (get_or xs p (pos 0) +ℤ change))
GrowBy-set xs p m change lt small bound h =
    All-set (λ x. unsigned_abs x ≤ bound + m) xs p (get_or xs p (pos 0) +ℤ change) (omega (arith, unsigned_abs-plus (get_or xs p (pos 0)) change, h p (pos 0) lt)) (AreWithin-more bound (bound + m) xs (omega arith) h)

-- the sum that the code computes, by its value
pub changed_is : (xs : List ℤ) (p : ℕ) (change : ℤ) → p < length xs → AreWithin (2 ^ 101) xs → unsigned_abs change ≤ 2 ^ 63 → to_z w128 (of_z w128 (to_z w128 (of_z w128 (get_or xs p (pos 0))) +ℤ to_z w128 (of_z w128 change))) ≡ get_or xs p (pos 0) +ℤ change
changed_is xs p change lt room small = plain (get_or xs p (pos 0)) change (room p (pos 0) lt) small
  where
    plain : (a b : ℤ) → unsigned_abs a ≤ 2 ^ 101 → unsigned_abs b ≤ 2 ^ 63 → to_z w128 (of_z w128 (to_z w128 (of_z w128 a) +ℤ to_z w128 (of_z w128 b))) ≡ a +ℤ b
    plain a b p q = omega (arith, ints)

-- ---- the running sum

module _ (xs : List ℤ) (n : ℕ) (load : ℤ) (lt : n < length xs) (below : n < 8192) (room : AreWithin (2 ^ 100) xs) (bound : unsigned_abs load ≤ n * 2 ^ 100) where
  summed : to_z w128 (of_z w128 (load +ℤ to_z w128 (of_z w128 (get_or xs n (pos 0))))) ≡ load +ℤ get_or xs n (pos 0)
  summed = plain load (get_or xs n (pos 0)) (omega arith) (room n (pos 0) lt)
    where
      plain : (a b : ℤ) → unsigned_abs a ≤ 2 ^ 113 → unsigned_abs b ≤ 2 ^ 100 → to_z w128 (of_z w128 (a +ℤ to_z w128 (of_z w128 b))) ≡ a +ℤ b
      plain a b p q = omega (arith, ints)

  pub summed-is : load ≡ load_after n xs → to_z w128 (of_z w128 (load +ℤ to_z w128 (of_z w128 (get_or xs n (pos 0))))) ≡ load_after (n + 1) xs
  summed-is e = summed ∙ ap (λ s. s +ℤ get_or xs n (pos 0)) e ∙ sym (load_after-more n xs lt)

  pub summed-bound : unsigned_abs (to_z w128 (of_z w128 (load +ℤ to_z w128 (of_z w128 (get_or xs n (pos 0)))))) ≤ (n + 1) * 2 ^ 100
  summed-bound = rw summed (omega (arith, unsigned_abs-plus load (get_or xs n (pos 0)), room n (pos 0) lt))

-- ---- one more task

pub IsProfile-more : (times ss ds rs old new : List ℤ) (i : ℕ) (s d r : ℤ) → i < length ss → length ss ≡ length ds → length ss ≡ length rs → s ≡ get_or ss i (pos 0) → d ≡ get_or ds i (pos 0) → r ≡ get_or rs i (pos 0) → IsProfile times (tasks (take i ss) (take i ds) (take i rs)) old → IsUsedBy (record { start = s; duration = d; uses = r }) times old new → IsProfile times (tasks (take (i + 1) ss) (take (i + 1) ds) (take (i + 1) rs)) new
IsProfile-more times ss ds rs old new i s d r lt e f es ed er so_far used k within =
    used k within
    ∙ ap (λ b. b +ℤ use_at (get_or times k (pos 0)) (record { start = s; duration = d; uses = r })) (so_far k within)
    ∙ rw (es, ed, er) (sym (load_at-more (get_or times k (pos 0)) ss ds rs i (pos 0) lt e f))

-- ---- the capacity at the starts of a block, which are the first times in another order

module _ (block front rest changes : List ℤ) (chosen : List Task) (capacity : ℤ) (same : IsPermutation block front) (profile : IsProfile (front ++ rest) chosen changes) where
  load_here : (k : ℕ) → k < length front → load_after (k + 1) changes ≡ load_at (get_or front k (pos 0)) chosen
  load_here k lt = profile k (simp length-append (omega arith)) ∙ ap (λ t. load_at t chosen) (get_or_append_left front rest (pos 0) k lt)

  pub kept_at_starts : ((k : ℕ) → k < length front → load_after (k + 1) changes ≤ℤ capacity) → All (λ t. load_at t chosen ≤ℤ capacity) block
  kept_at_starts within =
      All-permutation (λ t. load_at t chosen ≤ℤ capacity) front block (IsPermutation-sym block front same)
      (All-from_get_or (λ t. load_at t chosen ≤ℤ capacity) front (pos 0) (λ k lt. subst (λ x. x ≤ℤ capacity) (load_here k lt) (within k lt)))

  pub kept_at_times : All (λ t. load_at t chosen ≤ℤ capacity) block → (k : ℕ) → k < length front → load_after (k + 1) changes ≤ℤ capacity
  kept_at_times kept k lt = subst (λ x. x ≤ℤ capacity) (sym (load_here k lt)) (All-permutation (λ t. load_at t chosen ≤ℤ capacity) block front same kept k (pos 0) lt)
