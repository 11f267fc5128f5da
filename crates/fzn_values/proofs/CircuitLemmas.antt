-- The places reached from 1, step by step: what a circuit says of them.
use Rattle.std.proofs.Common.{◌≡◌, ℕ, zero, suc, ◌+◌, ◌-◌, ◌<◌, ◌≤◌, List, length, get_or, refl, ap, sym, ◌∙◌, subst, ℤ, pos, negsuc, arith}
use Rattle.std.specs.List.{All, Contains}
use Rattle.std.proofs.lemmas.Int.{ints}
use Rattle.std.proofs.lemmas.List.{get_or_default}
use Rattle.fzn_values.specs.AllDifferent.{IsAllDifferent}
use Rattle.fzn_values.specs.Entries.{IsIndex, entry_at}
use Rattle.fzn_values.specs.Circuit.{reached, reached_from, IsCircuit}
use Rattle.fzn_values.proofs.CountLemmas.{places_of, places_inside, places_inside-length, places_inside-more, places_of-Contains, places_of-two}

-- the value at a place of the list stands in the list
pub Contains-entry_at : (xs : List ℤ) (p : ℤ) → IsIndex (length xs) p → Contains xs (entry_at xs p)
Contains-entry_at xs (pos zero) h = absurd (omega (arith, ints))
Contains-entry_at xs (pos (suc k)) h =
    let lt : k < length xs = omega (arith, ints, h.1) in
    let at : suc k - 1 ≡ k = omega arith in
    rw at (k, lt, get_or_default xs k (get_or xs k (pos 0)) (pos 0) lt)
Contains-entry_at xs (negsuc k) h = absurd (omega (arith, ints))

-- steps add up
pub reached-more : (xs : List ℤ) (start : ℤ) (m k : ℕ) → reached_from xs start (m + k) ≡ reached_from xs (reached_from xs start m) k
reached-more xs start m zero = let e : m + 0 ≡ m = omega arith in rw e
reached-more xs start m (suc k) = let e : m + suc k ≡ suc (m + k) = omega arith in rw e (ap (entry_at xs) (reached-more xs start m k))

-- a set of places that each step stays in is never left
pub reached-stays : (P : ℤ → Type 0) (xs : List ℤ) → ((p : ℤ) → P p → P (entry_at xs p)) → (start : ℤ) (k : ℕ) → P start → P (reached_from xs start k)
reached-stays P xs stays start zero h = h
reached-stays P xs stays start (suc k) h = stays (reached_from xs start k) (reached-stays P xs stays start k h)

pub IsIndex-reached : (xs : List ℤ) → All (IsIndex (length xs)) xs → (k : ℕ) → IsIndex (length xs) (pos 1) → IsIndex (length xs) (reached xs k)
IsIndex-reached xs places k h = reached-stays (IsIndex (length xs)) xs (λ p q. let c = Contains-entry_at xs p q in stays xs (entry_at xs p) places c) (pos 1) k h
  where
    stays : (xs : List ℤ) (x : ℤ) → All (IsIndex (length xs)) xs → Contains xs x → IsIndex (length xs) x
    stays xs x places (k, lt, e) = subst (IsIndex (length xs)) e (places k x lt)

-- every place is a value of a circuit
pub circuit-Contains : (xs : List ℤ) → IsCircuit xs → (p : ℤ) → IsIndex (length xs) p → Contains xs p
circuit-Contains xs c p h = by_steps (c.all_reached p h)
  where
    one : (n : ℕ) (p : ℤ) → IsIndex n p → IsIndex n (pos 1)
    one n p h = (omega (arith, ints), omega (arith, ints, h.0, h.1))

    by_steps : (steps : ℕ) × (1 ≤ steps) × (steps ≤ length xs) × (reached xs steps ≡ p) → Contains xs p
    by_steps (zero, low, high, e) = absurd (omega arith)
    by_steps (suc k, low, high, e) = subst (Contains xs) e (Contains-entry_at xs (reached xs k) (IsIndex-reached xs c.places k (one (length xs) p h)))

-- so no two positions of a circuit have one value
pub circuit-different : (xs : List ℤ) → IsCircuit xs → IsAllDifferent xs
circuit-different xs c i j d l h e =
    let v : ℤ = get_or xs j d in
    let two : 2 ≤ places_of v xs = places_of-two xs i j d v l h e refl in
    let place : IsIndex (length xs) v = c.places j d h in
    let more : length xs < places_inside (pos 1) (length xs) xs =
    places_inside-more xs (length xs) (pos 1) (λ w low high. places_of-Contains xs w (circuit-Contains xs c w (low, omega (arith, ints))))
    v place.0 (omega (arith, ints, place.1)) two in
    omega (arith, places_inside-length (pos 1) (length xs) xs)

-- a nonempty set of places that each step stays in has every place of a circuit
pub circuit-no_cut : (P : ℤ → Type 0) (xs : List ℤ) → IsCircuit xs → ((p : ℤ) → P p → P (entry_at xs p)) → (p : ℤ) → IsIndex (length xs) p → P p → (q : ℤ) → IsIndex (length xs) q → P q
circuit-no_cut P xs c stays p place h q other =
    let way = c.all_reached p place in
    let there = c.all_reached q other in
    let all : way.0 + (length xs - way.0) ≡ length xs = omega (arith, way.2) in
    let back : P (pos 1) =
    subst P (sym (reached-more xs (pos 1) way.0 (length xs - way.0)) ∙ ap (reached_from xs (pos 1)) all ∙ c.closes)
    (subst (λ r. P (reached_from xs r (length xs - way.0))) (sym way.3) (reached-stays P xs stays p (length xs - way.0) h)) in
    subst P there.3 (reached-stays P xs stays (pos 1) there.0 back)
