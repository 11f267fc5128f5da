-- The numbers that stand an odd number of times in a sorted list, found from its front.
use Rattle.std.proofs.Common.{◌≡◌, ℕ, zero, suc, ◌+◌, ◌<◌, ◌≤◌, ◌%◌, cond, eqb, List, [], ◌∷◌, ◌++◌, length, get_or, take, refl, sym, ap, subst, ◌∙◌, ◌⊎◌, inl, inr, arith}
use Rattle.std.specs.List.{AllPairs}
use Rattle.std.specs.List.Sorted.{IsNonDecreasing, IsPermutation}
use Rattle.std.proofs.lemmas.List.{get_or_default, get_or_append_left, get_or_push, length_push, take_more, take_all}
use Rattle.std.proofs.lemmas.List.Quantifiers.{all_pairs_push}
use Rattle.std.proofs.lemmas.List.Sorted.{sum_by-IsPermutation}
use Rattle.std.proofs.lemmas.List.Sums.{sum_by_push}
use Rattle.fzn_derive.specs.Parity.{AreOddIn, EndsWith}
use Rattle.fzn_derive.proofs.OddLemmas.{times, odd_in-from_even, odd_in-even}

-- of the first i numbers of the sorted list these stand there an odd number of times, in rising order; none is above a later number
pub record AreOddSoFar (sorted : List ℕ) (i : ℕ) (odd : List ℕ) : Type 0 where
  pub rising : AllPairs (λ a b. a < b) odd
  pub below : (k j : ℕ) (d : ℕ) → k < length odd → i ≤ j → j < length sorted → get_or odd k d ≤ get_or sorted j d
  pub even : (n : ℕ) → (times n (take i sorted) + times n odd) % 2 ≡ 0

pub odd_none : (sorted : List ℕ) → AreOddSoFar sorted 0 []
odd_none sorted = record {
  rising = λ i j d below inside. absurd (omega arith);
  below = λ k j d inside later within. absurd (omega arith);
  even = λ n. refl;
}

pub odd_all : (sorted : List ℕ) (i : ℕ) (odd : List ℕ) → length sorted ≤ i → AreOddSoFar sorted i odd → AreOddIn sorted odd
odd_all sorted i odd end h = odd_in-from_even sorted odd h.rising (λ n. subst (λ (xs : List ℕ). (times n xs + times n odd) % 2 ≡ 0) (take_all i sorted end) (h.even n))

times_push : (n : ℕ) (xs : List ℕ) (y : ℕ) → times n (xs ++ y ∷ []) ≡ times n xs + cond (eqb y n) 1 0
times_push n xs y = sum_by_push (λ (m : ℕ). cond (eqb m n) 1 0) xs y

times_more : (n : ℕ) (sorted : List ℕ) (i : ℕ) → i < length sorted → times n (take (i + 1) sorted) ≡ times n (take i sorted) + cond (eqb (get_or sorted i 0) n) 1 0
times_more n sorted i inside = ap (times n) (take_more sorted i 0 inside) ∙ times_push n (take i sorted) (get_or sorted i 0)

at_front : (old new : List ℕ) (y k d : ℕ) → old ≡ new ++ y ∷ [] → k < length new → get_or old k d ≡ get_or new k d
at_front old new y k d e inside = ap (λ (xs : List ℕ). get_or xs k d) e ∙ get_or_append_left new (y ∷ []) d k inside

-- the next number is the last one: both go
pub odd_taken : (sorted : List ℕ) (i : ℕ) (old new : List ℕ) → i < length sorted → AreOddSoFar sorted i old → old ≡ new ++ get_or sorted i 0 ∷ [] → AreOddSoFar sorted (i + 1) new
odd_taken sorted i old new inside h e =
    let longer : length old ≡ length new + 1 = ap length e ∙ length_push new (get_or sorted i 0) in
    record {
      rising = λ k l d less within. let a = at_front old new (get_or sorted i 0) k d e (omega arith) in let b = at_front old new (get_or sorted i 0) l d e within in let c = h.rising k l d less (omega arith) in omega arith;
      below = λ k j d within later end. let a = at_front old new (get_or sorted i 0) k d e within in let c = h.below k j d (omega arith) (omega arith) end in omega arith;
      even = λ n. let a = times_more n sorted i inside in let b = times_push n new (get_or sorted i 0) in let c = ap (times n) e in let f = h.even n in omega arith;
    }

-- the next number is another than the last one: it comes behind
pub odd_put : (sorted : List ℕ) (i : ℕ) (old new : List ℕ) → IsNonDecreasing sorted → i < length sorted → AreOddSoFar sorted i old → new ≡ old ++ get_or sorted i 0 ∷ [] → ¬ EndsWith old (get_or sorted i 0) → AreOddSoFar sorted (i + 1) new
odd_put sorted i old new in_order inside h e other =
    let y : ℕ = get_or sorted i 0 in
    let longer : length new ≡ length old + 1 = ap length e ∙ length_push old (get_or sorted i 0) in
    let all_below : (k d : ℕ) → k < length old → get_or old k d < get_or sorted i 0 = below_next (get_or sorted i 0) old h.rising (λ k within. h.below k i 0 within (omega arith) inside) other in
    record {
      rising = subst (AllPairs (λ (a b : ℕ). a < b)) (sym e) (all_pairs_push (λ (a b : ℕ). a < b) old (get_or sorted i 0) h.rising all_below);
      below = λ k j d within later end. below_later k j d within later end;
      even = λ n. let a = times_more n sorted i inside in let b = times_push n old (get_or sorted i 0) in let c = ap (times n) e in let f = h.even n in omega arith;
    }
  where
    ends : (y : ℕ) (xs : List ℕ) → (last : ℕ) → last + 1 ≡ length xs → get_or xs last 0 ≡ y → EndsWith xs y
    ends y [] last end is = absurd (omega arith)
    ends y (x ∷ []) zero end is = ([], ap (λ (z : ℕ). z ∷ []) is)
    ends y (x ∷ []) (suc last) end is = absurd (omega arith)
    ends y (x ∷ z ∷ xs) zero end is = absurd (omega arith)
    ends y (x ∷ z ∷ xs) (suc last) end is = let rest = ends y (z ∷ xs) last (omega arith) is in (x ∷ rest.0, ap (λ (zs : List ℕ). x ∷ zs) rest.1)

    below_next : (y : ℕ) (xs : List ℕ) → AllPairs (λ (a b : ℕ). a < b) xs → ((k : ℕ) → k < length xs → get_or xs k 0 ≤ y) → ¬ EndsWith xs y → (k d : ℕ) → k < length xs → get_or xs k d < y
    below_next y xs rising most other k d within = by_order (order (get_or xs k 0) y (most k within))
      where
        order : (a b : ℕ) → a ≤ b → (a < b) ⊎ (a ≡ b)
        order a b l = grind arith

        same : get_or xs k d ≡ get_or xs k 0
        same = get_or_default xs k d 0 within

        last_or : (n : ℕ) → length xs ≡ n → get_or xs k 0 ≡ y → get_or xs k d < y
        last_or zero long is = absurd (omega arith)
        last_or (suc last) long is = by_place (order k last (omega arith))
          where
            by_place : (k < last) ⊎ (k ≡ last) → get_or xs k d < y
            by_place (inl less) = let a = rising k last 0 less (omega arith) in let b = most last (omega arith) in absurd (omega arith)
            by_place (inr at) = absurd (other (ends y xs last (omega arith) (ap (λ (n : ℕ). get_or xs n 0) (sym at) ∙ is)))

        by_order : (get_or xs k 0 < y) ⊎ (get_or xs k 0 ≡ y) → get_or xs k d < y
        by_order (inl less) = let s = same in omega arith
        by_order (inr is) = last_or (length xs) refl is

    below_later : (k j d : ℕ) → k < length new → i + 1 ≤ j → j < length sorted → get_or new k d ≤ get_or sorted j d
    below_later k j d within later end = by_place (place k (length old) (omega (arith, ap length e, length_push old (get_or sorted i 0))))
      where
        place : (k n : ℕ) → k < n + 1 → (k < n) ⊎ (k ≡ n)
        place k n l = grind arith

        by_place : (k < length old) ⊎ (k ≡ length old) → get_or new k d ≤ get_or sorted j d
        by_place (inl front) =
            let a = at_front new old (get_or sorted i 0) k d e front in
            let b = h.below k j d front (omega arith) end in
            omega arith
        by_place (inr last) =
            let a : get_or new k d ≡ get_or sorted i 0 = ap (λ (xs : List ℕ). get_or xs k d) e ∙ get_or_push old (get_or sorted i 0) d k (sym last) in
            let b = in_order i j d (omega arith) end in
            let s = get_or_default sorted i d 0 inside in
            omega arith

-- in another order the same numbers stand an odd number of times
pub odd_in-permutation : (xs ys odd : List ℕ) → IsPermutation xs ys → AreOddIn ys odd → AreOddIn xs odd
odd_in-permutation xs ys odd moved h = odd_in-from_even xs odd h.rising (λ n. let e = sum_by-IsPermutation (λ (m : ℕ). cond (eqb m n) 1 0) xs ys moved in let f = odd_in-even ys odd h n in omega arith)
