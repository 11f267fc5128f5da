-- The values are a circuit exactly where the way from place 1 comes back with the last step, and not before.
use Rattle.std.proofs.Common.{◌≡◌, ◌≢◌, ℕ, zero, suc, ◌+◌, ◌-◌, ◌<◌, ◌≤◌, List, [], ◌∷◌, true, length, get_or, refl, ap, sym, ◌∙◌, inl, inr, ℤ, pos, arith}
use Rattle.std.specs.Prelude.{IsTrue, ◌==◌}
use Rattle.std.specs.List.{All, AllPairs, Contains}
use Rattle.std.proofs.lemmas.Int.{ints}
use Rattle.std.proofs.lemmas.Bool.{cases_lt}
use Rattle.std.proofs.lemmas.List.Elements.{All-cons, All-head, All-tail, All-nil}
use Rattle.fzn_values.specs.Entries.{IsIndex}
use Rattle.fzn_values.specs.Circuit.{reached, reached_from, IsCircuit, ReturnsLast}
use Rattle.fzn_values.proofs.CountLemmas.{is_inside, places_of, places_inside, places_inside-length, places_inside-fewer, places_inside-more, places_of-Contains, Contains-places_of, places_of-two, places_of-different}
use Rattle.fzn_values.proofs.CircuitLemmas.{reached-more, IsIndex-reached}

-- the places reached, the last one first
abbrev pub orbit : List ℤ → ℕ → List ℤ
orbit xs zero = []
orbit xs (suc steps) = reached xs (suc steps) ∷ orbit xs steps

length-orbit : (xs : List ℤ) (n : ℕ) → length (orbit xs n) ≡ n
length-orbit xs zero = refl
length-orbit xs (suc n) = omega (arith, length-orbit xs n)

get_or-orbit : (xs : List ℤ) (n i : ℕ) (d : ℤ) → i < n → get_or (orbit xs n) i d ≡ reached xs (n - i)
get_or-orbit xs zero i d h = absurd (omega arith)
get_or-orbit xs (suc n) zero d h = let e : suc n - 0 ≡ suc n = omega arith in rw e
get_or-orbit xs (suc n) (suc i) d h = let e : suc n - suc i ≡ n - i = omega arith in rw e (get_or-orbit xs n i d (omega arith))

all_inside : (n : ℕ) (ys : List ℤ) → All (IsIndex n) ys → places_inside (pos 1) n ys ≡ length ys
all_inside n [] h = refl
all_inside n (y ∷ ys) h =
    let here : is_inside (pos 1) n y ≡ true = inside n y (All-head (IsIndex n) y ys h) in
    rw here (omega (arith, all_inside n ys (All-tail (IsIndex n) y ys h)))
  where
    inside : (n : ℕ) (y : ℤ) → IsIndex n y → is_inside (pos 1) n y ≡ true
    inside n y h = grind (arith, ints, h.0, h.1)

orbit_places : (xs : List ℤ) → All (IsIndex (length xs)) xs → IsIndex (length xs) (pos 1) → (n : ℕ) → All (IsIndex (length xs)) (orbit xs n)
orbit_places xs places one zero = All-nil (IsIndex (length xs))
orbit_places xs places one (suc n) = All-cons (IsIndex (length xs)) (reached xs (suc n)) (orbit xs n) (IsIndex-reached xs places (suc n) one) (orbit_places xs places one n)

first_place : (n : ℕ) (p : ℤ) → IsIndex n p → IsIndex n (pos 1)
first_place n p h = (omega (arith, ints), omega (arith, ints, h.0, h.1))

pub first_of : (n : ℕ) → 1 ≤ n → IsIndex n (pos 1)
first_of n h = (omega (arith, ints), omega (arith, ints))

-- no two of the first n steps reach one place
steps_differ : (xs : List ℤ) → ReturnsLast xs → (a b : ℕ) → 1 ≤ a → a < b → b ≤ length xs → reached xs a ≡ reached xs b → ⊥
steps_differ xs h a b low less high e =
    let n : ℕ = length xs in
    let all : b + (length xs - b) ≡ length xs = omega arith in
    h.not_before (a + (length xs - b)) (omega arith) (omega arith)
    (reached-more xs (pos 1) a (length xs - b)
    ∙ ap (λ p. reached_from xs p (length xs - b)) e
    ∙ sym (reached-more xs (pos 1) b (length xs - b))
    ∙ ap (reached_from xs (pos 1)) all
    ∙ h.last)

orbit_different : (xs : List ℤ) → ReturnsLast xs → AllPairs (λ x y. x ≢ y) (orbit xs (length xs))
orbit_different xs h i j d l m e =
    let len = length-orbit xs (length xs) in
    steps_differ xs h (length xs - j) (length xs - i) (omega arith) (omega arith) (omega arith)
    (sym (get_or-orbit xs (length xs) j d (omega arith)) ∙ sym e ∙ get_or-orbit xs (length xs) i d (omega arith))

pub circuit_from_return : (xs : List ℤ) → All (IsIndex (length xs)) xs → ReturnsLast xs → IsCircuit xs
circuit_from_return xs places h = record {
  places = places;
  closes = h.last;
  all_reached = λ p place. by_count p place (places_of p (orbit xs (length xs))) refl;
}
  where
    by_count : (p : ℤ) → IsIndex (length xs) p → (k : ℕ) → places_of p (orbit xs (length xs)) ≡ k → (steps : ℕ) × (1 ≤ steps) × (steps ≤ length xs) × (reached xs steps ≡ p)
    by_count p place zero e =
        let fewer : places_inside (pos 1) (length xs) (orbit xs (length xs)) < length xs =
        places_inside-fewer (orbit xs (length xs)) (places_of-different (orbit xs (length xs)) (orbit_different xs h)) (length xs) (pos 1) p place.0 (omega (arith, ints, place.1)) e in
        let inside = all_inside (length xs) (orbit xs (length xs)) (orbit_places xs places (first_place (length xs) p place) (length xs)) in
        let len = length-orbit xs (length xs) in
        absurd (omega arith)
    by_count p place (suc k) e =
        let c = Contains-places_of (orbit xs (length xs)) p (omega arith) in
        let len = length-orbit xs (length xs) in
        let lt : c.0 < length xs = omega (arith, c.1) in
        (length xs - c.0, omega arith, omega arith, sym (get_or-orbit xs (length xs) c.0 p lt) ∙ c.2)

pub return_from_circuit : (xs : List ℤ) → IsCircuit xs → ReturnsLast xs
return_from_circuit xs c = record {
  last = c.closes;
  not_before = λ steps low high e. twice steps low high e;
}
  where
    in_orbit : (p : ℤ) → IsIndex (length xs) p → Contains (orbit xs (length xs)) p
    in_orbit p place =
        let way = c.all_reached p place in
        let at : length xs - (length xs - way.0) ≡ way.0 = omega (arith, way.2) in (
          length xs - way.0,
          rw (length-orbit xs (length xs)) (omega (arith, way.1, way.2)),
          get_or-orbit xs (length xs) (length xs - way.0) p (omega (arith, way.1, way.2)) ∙ ap (reached xs) at ∙ way.3,
        )

    twice : (steps : ℕ) → 1 ≤ steps → steps < length xs → reached xs steps ≡ pos 1 → ⊥
    twice steps low high e =
        let len = length-orbit xs (length xs) in
        let at_last : length xs - 0 ≡ length xs = omega arith in
        let at : length xs - (length xs - steps) ≡ steps = omega arith in
        let two : 2 ≤ places_of (pos 1) (orbit xs (length xs)) =
        places_of-two (orbit xs (length xs)) 0 (length xs - steps) (pos 0) (pos 1) (omega arith) (omega arith)
        (get_or-orbit xs (length xs) 0 (pos 0) (omega arith) ∙ ap (reached xs) at_last ∙ c.closes)
        (get_or-orbit xs (length xs) (length xs - steps) (pos 0) (omega arith) ∙ ap (reached xs) at ∙ e) in
        let one = first_of (length xs) (omega arith) in
        let more : length xs < places_inside (pos 1) (length xs) (orbit xs (length xs)) =
        places_inside-more (orbit xs (length xs)) (length xs) (pos 1)
        (λ w l m. places_of-Contains (orbit xs (length xs)) w (in_orbit w (l, omega (arith, ints))))
        (pos 1) one.0 (omega (arith, ints)) two in
        omega (arith, places_inside-length (pos 1) (length xs) (orbit xs (length xs)))

-- ---- the loop that follows the way

is_equal : (a b : ℕ) → (IsTrue (a == b) → a ≡ b) × (a ≡ b → IsTrue (a == b))
is_equal a b = ((λ h. grind (arith, h)), (λ h. grind (arith, h)))

-- place 1 is reached for the first time
pub first_return : (xs : List ℤ) (n steps : ℕ) → n ≡ length xs → steps < length xs → reached xs (suc steps) ≡ pos 1 → ((k : ℕ) → 1 ≤ k → k ≤ steps → reached xs k ≡ pos 1 → ⊥) → (IsTrue (steps + 1 == n) → ReturnsLast xs) × (ReturnsLast xs → IsTrue (steps + 1 == n))
first_return xs n steps same lt here before = (
  (λ y. let e : suc steps ≡ length xs = omega (arith, (is_equal (steps + 1) n).0 y) in
      record { last = ap (reached xs) (sym e) ∙ here; not_before = λ k low high at. before k low (omega arith) at }),
  (λ h. (is_equal (steps + 1) n).1 (at_end h)),
)
  where
    at_end : ReturnsLast xs → steps + 1 ≡ n
    at_end h = elim (cases_lt (suc steps) (length xs)) [ inl less ↦ absurd (h.not_before (suc steps) (omega arith) less here) | inr past ↦ omega arith ]

-- another place is reached
pub no_return : (xs : List ℤ) (steps : ℕ) → (reached xs (suc steps) ≡ pos 1 → ⊥) → ((k : ℕ) → 1 ≤ k → k ≤ steps → reached xs k ≡ pos 1 → ⊥) → (k : ℕ) → 1 ≤ k → k ≤ steps + 1 → reached xs k ≡ pos 1 → ⊥
no_return xs steps here before k low high at =
    elim (cases_lt steps k) [ inl last ↦ let e : k ≡ suc steps = omega arith in here (ap (reached xs) (sym e) ∙ at) | inr less ↦ before k low less at ]
