-- Places counted by their values, and lists that are inverse.
use Rattle.std.proofs.Common.{◌≡◌, ℕ, suc, ◌-◌, ◌<◌, ◌≤◌, List, [], ◌∷◌, Bool, cond, ◌&&◌, length, get_or, refl, sym, ◌∙◌, ℤ, pos, ◌+ℤ◌, ◌-ℤ◌, ◌≤ℤ◌, int_le, unsigned_abs, arith}
use Rattle.std.specs.List.{Contains, count_by}
use Rattle.std.proofs.lemmas.Int.{ints}
use Rattle.std.proofs.lemmas.List.{get_or_default}
use Rattle.std.proofs.lemmas.List.Sums.{sum_by-cons}
use Rattle.fzn_values.specs.AllDifferent.{IsAllDifferent}
use Rattle.fzn_values.specs.Entries.{IsIndex, entry_at}
use Rattle.fzn_values.specs.Inverse.{IsInverse}
use Rattle.fzn_values.proofs.CallerLemmas.{is_inside, places_inside, places_inside-length, places_inside-least, places_inside-most, places_of-Contains, places_of-different}

-- ---- pigeonhole

-- whether x is from low to high
abbrev pub is_from_to : ℤ → ℤ → ℤ → Bool
is_from_to low high x = int_le low x && int_le x high

same_range : (low high x : ℤ) (m : ℕ) → pos m ≡ (high -ℤ low) +ℤ pos 1 → is_inside low m x ≡ is_from_to low high x
same_range low high x m e = grind (arith, ints)

places_from_to : (low high : ℤ) (m : ℕ) (xs : List ℤ) → pos m ≡ (high -ℤ low) +ℤ pos 1 → count_by (is_from_to low high) xs ≡ places_inside low m xs
places_from_to low high m [] e = refl
places_from_to low high m (x ∷ xs) e = sum_by-cons (λ y. cond (is_from_to low high y) 1 0) x xs ∙ rw (same_range low high x m e, places_from_to low high m xs e)

-- values that are all different have at most as many places from low to high as there are numbers
pub different-from_to : (low high : ℤ) (xs : List ℤ) → IsAllDifferent xs → low ≤ℤ high → pos (count_by (is_from_to low high) xs) ≤ℤ ((high -ℤ low) +ℤ pos 1)
different-from_to low high xs different in_order =
    let m : ℕ = unsigned_abs ((high -ℤ low) +ℤ pos 1) in
    let e : pos m ≡ (high -ℤ low) +ℤ pos 1 = numbers low high in_order in
    let most : places_inside low m xs ≤ m = places_inside-most xs (places_of-different xs different) m low in
    let same : count_by (is_from_to low high) xs ≡ places_inside low m xs = places_from_to low high m xs e in
    omega (arith, ints)
  where
    numbers : (a b : ℤ) → a ≤ℤ b → pos (unsigned_abs ((b -ℤ a) +ℤ pos 1)) ≡ (b -ℤ a) +ℤ pos 1
    numbers a b h = grind (arith, ints)

-- a list that contains every index has no fewer elements
pub index-length : (count : ℕ) (xs : List ℤ) → ((x : ℤ) → IsIndex count x → Contains xs x) → count ≤ length xs
index-length count xs each =
    let some : count ≤ places_inside (pos 1) count xs = places_inside-least xs count (pos 1) (λ v low high. places_of-Contains xs v (each v (low, omega (arith, ints)))) in
    omega (arith, places_inside-length (pos 1) count xs)

-- ---- inverse

pub inverse-flip : (forward backward : List ℤ) → IsInverse forward backward → IsInverse backward forward
inverse-flip forward backward h = record {
  forward_places = h.backward_places;
  backward_places = h.forward_places;
  inverse = λ i j pi pj. let e = h.inverse j i pj pi in (e.1, e.0);
}

entry_at-get : (xs : List ℤ) (k : ℕ) (d : ℤ) → k < length xs → entry_at xs (pos (suc k)) ≡ get_or xs k d
entry_at-get xs k d lt = let e : suc k - 1 ≡ k = omega arith in rw e (get_or_default xs k (pos 0) d lt)

index : (n m k : ℕ) → k < n → n ≡ m → IsIndex m (pos (suc k))
index n m k lt e = (omega (arith, ints), omega (arith, ints))

pub inverse-different : (forward backward : List ℤ) → length backward ≡ length forward → IsInverse forward backward → IsAllDifferent forward
inverse-different f g same h i j d l m e =
    let v : ℤ = get_or f j d in
    let place = h.forward_places j d m in
    let vg : IsIndex (length g) (get_or f j d) = (place.0, omega (arith, ints, place.1)) in
    let at_i = (h.inverse (pos (suc i)) v (index (length f) (length f) i (omega arith) refl) vg).0 (entry_at-get f i d (omega arith) ∙ e) in
    let at_j = (h.inverse (pos (suc j)) v (index (length f) (length f) j (omega arith) refl) vg).0 (entry_at-get f j d m) in
    let same_place : pos (suc i) ≡ pos (suc j) = sym at_i ∙ at_j in
    absurd (omega (arith, ints))
