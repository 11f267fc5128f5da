-- Numbers in order that leave out none that counts: what is kept of all numbers is kept of them.
use Rattle.std.proofs.Common.{◌≡◌, ◌⊎◌, ℕ, zero, suc, ◌+◌, ◌<◌, ◌≤◌, Bool, false, cond, List, [], ◌∷◌, map, length, get_or, refl, sym, ap, ap₂, ◌∙◌, inl, inr, arith, All}
use Rattle.std.specs.List.{filter, range_with_len, AllPairs, AllByRecursion}
use Rattle.std.proofs.lemmas.Bool.{cases_eq}
use Rattle.fzn_values.specs.declared.term.Place.{Place}
use Rattle.fzn_derive.specs.Merged.{has_weight}

-- one of the list
abbrev pub Has : List ℕ → ℕ → Type 0
Has [] n = ⊥
Has (x ∷ xs) n = (x ≡ n) ⊎ Has xs n

pub has : (xs : List ℕ) (n k : ℕ) → k < length xs → get_or xs k n ≡ n → Has xs n
has [] n k inside is = absurd (omega arith)
has (x ∷ xs) n zero inside is = inl is
has (x ∷ xs) n (suc k) inside is = inr (has xs n k (omega arith) is)

-- in rising order, from this number on
abbrev pub RisesFrom : ℕ → List ℕ → Type 0
RisesFrom b [] = Unit {0}
RisesFrom b (x ∷ xs) = (b ≤ x) × RisesFrom (x + 1) xs

pub rises : (b : ℕ) (xs : List ℕ) → All (λ (x : ℕ). b ≤ x) xs → AllPairs (λ (x y : ℕ). x < y) xs → RisesFrom b xs
rises b [] low pairs = tt
rises b (x ∷ xs) low pairs = (
  low 0 x (omega arith),
  rises (x + 1) xs
      (λ k d inside. let h = pairs 0 (suc k) d (omega arith) (omega arith) in omega arith)
      (λ i j d before inside. pairs (suc i) (suc j) d (omega arith) (omega arith)),
)

weaker : (a b : ℕ) (xs : List ℕ) → a ≤ b → RisesFrom b xs → RisesFrom a xs
weaker a b [] le rise = tt
weaker a b (x ∷ xs) le rise = let first = rise.0 in (omega arith, rise.1)

not_below : (b n : ℕ) (xs : List ℕ) → RisesFrom b xs → n < b → Has xs n → ⊥
not_below b n [] rise below one = one
not_below b n (x ∷ xs) rise below (inl same) = let first = rise.0 in omega arith
not_below b n (x ∷ xs) rise below (inr later) = let first = rise.0 in not_below (x + 1) n xs rise.1 (omega arith) later

module _ (f : ℕ → Place) where
  pub same_kept : (count a : ℕ) (xs : List ℕ) → RisesFrom a xs → AllByRecursion (λ (x : ℕ). x < a + count) xs
      → ((n : ℕ) → a ≤ n → n < a + count → (has_weight (f n) ≡ false) ⊎ Has xs n)
      → filter has_weight (map f xs) ≡ filter has_weight (map f (range_with_len a count))
  same_kept zero a [] rise below none = refl
  same_kept zero a (x ∷ xs) rise below none = let first = rise.0 in let last = below.0 in absurd (omega arith)
  same_kept (suc count) a [] rise below none =
      let rest = same_kept count (a + 1) [] tt tt (λ n from to. none n (omega arith) (omega arith)) in
      elim (none a (omega arith) (omega arith)) [
        | inl nothing ↦ rest ∙ ap (λ (b : Bool). cond b (f a ∷ filter has_weight (map f (range_with_len (a + 1) count))) (filter has_weight (map f (range_with_len (a + 1) count)))) (sym nothing)
        | inr one ↦ absurd one
      ]
  same_kept (suc count) a (x ∷ xs) rise below none = elim (cases_eq x a) [
    | inl same ↦
        let next : RisesFrom (a + 1) xs = weaker (a + 1) (x + 1) xs (omega arith) rise.1 in
        let rest = same_kept count (a + 1) xs next (tighter a count xs below.1) (λ n from to. elim (none n (omega arith) (omega arith)) [
          | inl nothing ↦ inl nothing
          | inr one ↦ elim one [ inl it ↦ absurd (omega arith) | inr later ↦ inr later ]
        ]) in
        ap₂ (λ (n : ℕ) (kept : List Place). cond (has_weight (f n)) (f n ∷ kept) kept) same rest
    | inr other ↦
        let first = rise.0 in
        let next : RisesFrom (a + 1) (x ∷ xs) = (omega arith, rise.1) in
        let rest = same_kept count (a + 1) (x ∷ xs) next (tighter a count (x ∷ xs) below) (λ n from to. none n (omega arith) (omega arith)) in
        elim (none a (omega arith) (omega arith)) [
          | inl nothing ↦ rest ∙ ap (λ (b : Bool). cond b (f a ∷ filter has_weight (map f (range_with_len (a + 1) count))) (filter has_weight (map f (range_with_len (a + 1) count)))) (sym nothing)
          | inr one ↦ absurd (not_below (a + 1) a (x ∷ xs) next (omega arith) one)
        ]
  ]
    where
      tighter : (a count : ℕ) (xs : List ℕ) → AllByRecursion (λ (x : ℕ). x < a + suc count) xs → AllByRecursion (λ (x : ℕ). x < (a + 1) + count) xs
      tighter a count [] below = tt
      tighter a count (x ∷ xs) below = let first = below.0 in (omega arith, tighter a count xs below.1)
