-- Parts of lists, picked by their numbers.
use Rattle.std.proofs.Common.{◌≡◌, ℕ, zero, suc, ◌+◌, ◌-◌, ◌<◌, ◌≤◌, List, [], ◌∷◌, ◌++◌, length, take, drop, get_or, flat_map, Option, Some, slice_get, ap, subst, sym, ◌∙◌, arith, inl, inr}
use Rattle.std.specs.Prelude.{Contains, slice_range}
use Rattle.std.specs.List.{All, AllPairs, filter_map}
use Rattle.std.specs.List.Sorted.{IsStrictlyIncreasing}
use Rattle.std.proofs.lemmas.Bool.{cases_lt}
use Rattle.std.proofs.lemmas.List.{length-append, take_more}
use Rattle.std.proofs.lemmas.List.Elements.{All-nil, All-append, filter_map-append, All-take, All-drop, Contains-append_left, Contains-append_right, Contains-push}
use Rattle.std.proofs.lemmas.List.Kept.{AllPairs-from_increasing}
use Rattle.std.proofs.lemmas.Option.{same_Some}

pub one-at : {A : Type 0} (xs : List A) (i : ℕ) (x : A) → slice_get xs i ≡ Some x → take 1 (drop i xs) ≡ x ∷ []
one-at [] i x e = cc
one-at (y ∷ xs) zero x e = ap (λ z. z ∷ []) (same_Some y x e)
one-at (y ∷ xs) (suc i) x e = one-at xs i x e

short-take : {A : Type 0} (n : ℕ) (xs : List A) → length (take n xs) ≤ n
short-take zero xs = omega arith
short-take (suc n) [] = omega arith
short-take (suc n) (x ∷ xs) = omega (arith, short-take n xs)

-- ---- lists joined

pub flat-all : {A B : Type 0} (P : B → Type 0) (f : A → List B) (xs : List A) → ((x : A) → All P (f x)) → All P (flat_map f xs)
flat-all P f [] h = All-nil P
flat-all P f (x ∷ xs) h = All-append P (f x) (flat_map f xs) (h x) (flat-all P f xs h)

pub flat-in : {A B : Type 0} (P : B → Type 0) (f : A → List B) (xs : List A) → ((x : A) → Contains xs x → All P (f x)) → All P (flat_map f xs)
flat-in P f [] h = All-nil P
flat-in P f (x ∷ xs) h = All-append P (f x) (flat_map f xs) (h x (Contains-append_left (x ∷ []) xs x (Contains-push [] x))) (flat-in P f xs (λ y listed. h y (Contains-append_right (x ∷ []) xs y listed)))

flat-short : {A B : Type 0} (f : A → List B) (xs : List A) → ((x : A) → length (f x) ≤ 1) → length (flat_map f xs) ≤ length xs
flat-short f [] h = omega arith
flat-short f (x ∷ xs) h = omega (arith, h x, flat-short f xs h, length-append (f x) (flat_map f xs))

in-flat : {A B : Type 0} (f : A → List B) (xs : List A) (i : ℕ) (d : A) (y : B) → i < length xs → Contains (f (get_or xs i d)) y → Contains (flat_map f xs) y
in-flat f [] i d y lt h = absurd (omega (arith, lt))
in-flat f (x ∷ xs) zero d y lt h = Contains-append_left (f x) (flat_map f xs) y h
in-flat f (x ∷ xs) (suc i) d y lt h = Contains-append_right (f x) (flat_map f xs) y (in-flat f xs i d y (omega (arith, lt)) h)

-- what is found at one more
pub found-more : {A B : Type 0} (f : A → Option B) (old new : List B) (xs : List A) (i : ℕ) (x : A) → i < length xs → x ≡ get_or xs i x → old ≡ filter_map f (take i xs) → new ≡ old ++ filter_map f (x ∷ []) → new ≡ filter_map f (take (i + 1) xs)
found-more f old new xs i x within is old_is new_is = rw (take_more xs i x within, ← is, filter_map-append f (take i xs) (x ∷ []), ← old_is) new_is

-- ---- the members with these numbers, counted from 1

module _ {A : Type 0} (xs : List A) where
  pub picked-all : (P : A → Type 0) (numbers : List ℕ) → All P xs → All P (flat_map (λ n. slice_range xs (n - 1) n) numbers)
  picked-all P numbers all = flat-all P (λ n. slice_range xs (n - 1) n) numbers (λ n. All-take P (n - (n - 1)) (drop (n - 1) xs) (All-drop P (n - 1) xs all))

  pub picked-contains : (numbers : List ℕ) (n : ℕ) (x : A) → 1 ≤ n → Contains numbers n → slice_get xs (n - 1) ≡ Some x → Contains (flat_map (λ n. slice_range xs (n - 1) n) numbers) x
  picked-contains numbers n x some listed at =
      let width : n - (n - 1) ≡ 1 = omega (arith, some) in
      let one : slice_range xs (n - 1) n ≡ x ∷ [] = ap (λ (w : ℕ). take w (drop (n - 1) xs)) width ∙ one-at xs (n - 1) x at in
      let here : Contains (slice_range xs (n - 1) n) x = subst (λ (ys : List A). Contains ys x) (sym one) (Contains-push [] x) in
      in-flat (λ n. slice_range xs (n - 1) n) numbers listed.0 n x listed.1 (subst (λ (m : ℕ). Contains (slice_range xs (m - 1) m) x) (sym listed.2) here)

  -- ---- how many there are

  above : (numbers : List ℕ) → AllPairs (λ a b. a < b) numbers → All (λ n. (1 ≤ n) × (n ≤ length xs)) numbers → (i : ℕ) → i < length numbers → i + 1 ≤ get_or numbers i 0
  above numbers rising within zero lt = omega (arith, (within 0 0 lt).0)
  above numbers rising within (suc i) lt =
      let before = above numbers rising within i (omega (arith, lt)) in
      let next = rising i (suc i) 0 (omega arith) lt in
      omega (arith, before, next)

  pub picked-few : (numbers : List ℕ) → IsStrictlyIncreasing numbers → All (λ n. (1 ≤ n) × (n ≤ length xs)) numbers → length (flat_map (λ n. slice_range xs (n - 1) n) numbers) ≤ length xs
  picked-few numbers rising within =
      let short : length (flat_map (λ n. slice_range xs (n - 1) n) numbers) ≤ length numbers = flat-short (λ n. slice_range xs (n - 1) n) numbers (λ n. omega (arith, short-take (n - (n - 1)) (drop (n - 1) xs))) in
      elim (cases_lt 0 (length numbers)) [
        | inl some ↦
            let lt : length numbers - 1 < length numbers = omega (arith, some) in
            let last = above numbers (AllPairs-from_increasing numbers rising) within (length numbers - 1) lt in
            omega (arith, short, some, last, (within (length numbers - 1) 0 lt).1)
        | inr none ↦ omega (arith, short, none)
      ]
