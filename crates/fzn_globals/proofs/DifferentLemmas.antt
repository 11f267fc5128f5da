-- When places have different values.
use Rattle.std.proofs.Common.{◌≡◌, ◌≢◌, ℕ, ◌+◌, ◌-◌, ◌<◌, ◌≤◌, List, [], ◌∷◌, ◌++◌, length, get_or, sym, ap, subst, ◌∙◌, inl, inr, arith, ℤ, pos, ◌<ℤ◌, All}
use Rattle.std.specs.Prelude.{IsPermutation}
use Rattle.std.specs.List.{AllPairs}
use Rattle.std.specs.Ordering.{int_eq}
use Rattle.std.proofs.Math.Nat.{eq-or-lt_of_le}
use Rattle.std.proofs.lemmas.Int.{ints}
use Rattle.std.proofs.lemmas.Bool.Decides.{Decides-int_eq}
use Rattle.std.proofs.lemmas.List.{ext_get_or, get_or_default, get_or_push, get_or_append_left, length_push}
use Rattle.std.proofs.lemmas.List.Sorted.{IsPermutation-sym}
use Rattle.std.proofs.lemmas.Map.Keys.{IsDistinct-IsPermutation}
use Rattle.std.proofs.lemmas.Map.Made.{AllPairs-from_IsDistinct, IsDistinct-from_AllPairs}
use Rattle.fzn_domain.specs.IntSet.{IntSet}
use Rattle.fzn_domain.specs.Narrow.{IsWithin, AllFixed}
use Rattle.fzn_values.specs.declared.term.Term.{Term}
use Rattle.fzn_values.specs.declared.term.Term.TheVariants.{Constant}
use Rattle.fzn_meaning.specs.declared.constraint.Constraint.TheVariants.{AllDifferent}
use Rattle.fzn_values.specs.AllDifferent.{IsAllDifferent}
use Rattle.fzn_meaning.specs.Meaning.{Meets}
use Rattle.fzn_values.specs.Term.{IsTerm, values_of}
use Rattle.fzn_values.proofs.CallerLemmas.{length-values_of, get_or-values_of}
use Rattle.fzn_sets.specs.Terms.{MayBe}
use Rattle.fzn_trail.specs.Levels.{Levels}
use Rattle.fzn_propagator.specs.Inference.{HoldsWhereFixed}
use Rattle.fzn_terms.specs.Values.{place_at}
use Rattle.fzn_terms.proofs.FixedLemmas.{fixed_only, now_fit}
use Rattle.fzn_globals.specs.Apart.{AreMembers, HasOpenPlace}

-- ---- numbers that rise

-- each of the first numbers is below all later ones of them
abbrev pub AreRising : List ℤ → ℕ → Type 0
AreRising xs count = (i j : ℕ) → i < j → j < count → get_or xs i (pos 0) <ℤ get_or xs j (pos 0)

less_trans : (a b c : ℤ) → a <ℤ b → b <ℤ c → a <ℤ c
less_trans a b c first second = omega (arith, ints, first, second)

not_same : (a b : ℤ) → a <ℤ b → a ≡ b → ⊥
not_same a b less same = omega (arith, ints, less, same)

module _ (xs : List ℤ) where
  below_last : (k i : ℕ) → 1 ≤ k → get_or xs (k - 1) (pos 0) <ℤ get_or xs k (pos 0) → AreRising xs k → i < k → get_or xs i (pos 0) <ℤ get_or xs k (pos 0)
  below_last k i some next rising less =
      let le : i ≤ k - 1 = omega (arith, some, less) in
      elim (eq-or-lt_of_le le) [
        | inl same ↦ subst (λ (n : ℕ). get_or xs n (pos 0) <ℤ get_or xs k (pos 0)) (sym same) next
        | inr before ↦ less_trans (get_or xs i (pos 0)) (get_or xs (k - 1) (pos 0)) (get_or xs k (pos 0)) (rising i (k - 1) before (omega (arith, some))) next
      ]

  pub rising_more : (k : ℕ) → 1 ≤ k → get_or xs (k - 1) (pos 0) <ℤ get_or xs k (pos 0) → AreRising xs k → AreRising xs (k + 1)
  rising_more k some next rising i j less below =
      let le : j ≤ k = omega (arith, below) in
      elim (eq-or-lt_of_le le) [
        | inl same ↦ subst (λ (n : ℕ). get_or xs i (pos 0) <ℤ get_or xs n (pos 0)) (sym same) (below_last k i some next rising (subst (λ (n : ℕ). i < n) same less))
        | inr before ↦ rising i j less before
      ]

  pub rising_apart : AreRising xs (length xs) → AllPairs (λ x y. x ≢ y) xs
  rising_apart rising i j d less below same =
      let i_below : i < length xs = omega (arith, less, below) in
      not_same (get_or xs i (pos 0)) (get_or xs j (pos 0)) (rising i j less below) (get_or_default xs i (pos 0) d i_below ∙ same ∙ get_or_default xs j d (pos 0) below)

-- ---- in another order

flips : (x y : ℤ) → int_eq x y ≡ int_eq y x
flips x y = grind (arith, ints)

apart_unsorted : (xs ys : List ℤ) → IsPermutation xs ys → AllPairs (λ x y. x ≢ y) ys → AllPairs (λ x y. x ≢ y) xs
apart_unsorted xs ys same apart = AllPairs-from_IsDistinct Decides-int_eq xs (IsDistinct-IsPermutation int_eq flips ys xs (IsPermutation-sym xs ys same) (IsDistinct-from_AllPairs Decides-int_eq ys apart))

-- ---- places

only_values : (sets : List IntSet) (values : List ℤ) → IsWithin sets values → AllFixed sets → (places : List Term) (found : List ℤ) → All (IsTerm (length sets)) places → AreMembers sets places found (length places) → values_of values places ≡ found
only_values sets values within fixed places found fit members =
    let e : Term = Constant (pos 0) in
    let count = length-values_of values places in
    ext_get_or (pos 0) (values_of values places) found (count ∙ sym members.one_each)
    (λ k lt.
    let k_below : k < length places = omega (arith, lt, count, members.one_each) in
    get_or-values_of values places k (pos 0) e k_below
    ∙ sym ((fixed_only sets values within fixed (get_or places k e) (fit k e k_below)).only (get_or found k (pos 0)) (members.members k k_below)))

pub members_more : (sets : List IntSet) (places : List Term) (found more : List ℤ) (k : ℕ) (v : ℤ) → AreMembers sets places found k → more ≡ found ++ v ∷ [] → MayBe sets (place_at places k) v → AreMembers sets places more (k + 1)
members_more sets places found more k v members is may = record {
  one_each = ap length is ∙ length_push found v ∙ ap (λ (n : ℕ). n + 1) members.one_each;
  members = λ i below.
      let le : i ≤ k = omega (arith, below) in
      elim (eq-or-lt_of_le le) [
        | inl same ↦ subst (λ (n : ℕ). MayBe sets (place_at places n) (get_or more n (pos 0))) (sym same) (subst (MayBe sets (place_at places k)) (sym (last is)) may)
        | inr before ↦ subst (MayBe sets (place_at places i)) (sym (earlier is i before)) (members.members i before)
      ];
}
  where
    last : more ≡ found ++ v ∷ [] → get_or more k (pos 0) ≡ v
    last is = ap (λ (xs : List ℤ). get_or xs k (pos 0)) is ∙ get_or_push found v (pos 0) k members.one_each

    earlier : more ≡ found ++ v ∷ [] → (i : ℕ) → i < k → get_or more i (pos 0) ≡ get_or found i (pos 0)
    earlier is i before = ap (λ (xs : List ℤ). get_or xs i (pos 0)) is ∙ get_or_append_left found (v ∷ []) (pos 0) i (omega (arith, before, members.one_each))

module _ (trail : Levels) (places : List Term) (fit : All (IsTerm (length trail.declared)) places) where
  pub sorted_met : (found sorted : List ℤ) → AreMembers trail.sets places found (length places) → IsPermutation found sorted → AllPairs (λ x y. x ≢ y) sorted → HoldsWhereFixed trail (AllDifferent places)
  unfolding Meets
  sorted_met found sorted members same apart fixed values declared present =
      subst IsAllDifferent (sym (only_values trail.sets values present fixed places found (now_fit trail values places declared present fit) members)) (apart_unsorted found sorted same apart)

  pub open_met : HasOpenPlace trail.sets places → HoldsWhereFixed trail (AllDifferent places)
  open_met some fixed values declared present =
      let e : Term = Constant (pos 0) in
      let found = some.2 in
      let only = fixed_only trail.sets values present fixed (get_or places some.0 e) (now_fit trail values places declared present fit some.0 e some.1) in
      absurd (found.2.2 (only.only found.2.0 found.2.1 ∙ sym (only.only found.0 found.1)))
