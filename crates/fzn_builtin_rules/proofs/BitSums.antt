-- Sums of numbers that are 0 or 1.
use Rattle.std.proofs.Common.{◌≡◌, zero, suc, List, [], ◌∷◌, length, inl, inr, arith, ℤ, pos, negsuc, ◌+ℤ◌, ◌-ℤ◌, ◌*ℤ◌, ◌≤ℤ◌, refl}
use Rattle.std.specs.List.{AllByRecursion, Any}
use Rattle.std.proofs.lemmas.Int.{ints}
use Rattle.fzn_values.specs.declared.term.Term.{Term}
use Rattle.fzn_values.specs.Term.{term_value, values_of, product_at, sum_at}
use Rattle.fzn_meaning.specs.Meaning.{IsBit}
use Rattle.fzn_builtin_rules.specs.Form.{place_with, each_with}
use Rattle.fzn_builtin_rules.proofs.SumLemmas.{total_by-cons}

pub one_times : (x : ℤ) → pos 1 *ℤ x ≡ x
one_times (pos n) = omega (arith, ints)
one_times (negsuc n) = omega (arith, ints)

pub minus_times : (x : ℤ) → negsuc 0 *ℤ x ≡ pos 0 -ℤ x
minus_times (pos n) = omega (arith, ints)
minus_times (negsuc n) = omega (arith, ints)

-- the sum of the numbers
pub ones : List ℤ → ℤ
ones [] = pos 0
ones (x ∷ xs) = x +ℤ ones xs

pub sum-ones : (values : List ℤ) (terms : List Term) → sum_at values (each_with (pos 1) terms) ≡ ones (values_of values terms)
unfolding ones
sum-ones values [] = omega (arith, ints)
sum-ones values (t ∷ terms) =
    let rest = sum-ones values terms in
    let both = total_by-cons (product_at values) (place_with (pos 1) t) (each_with (pos 1) terms) in
    let here = one_times (term_value values t) in
    omega (arith, ints)

pub sum-minus : (values : List ℤ) (terms : List Term) → sum_at values (each_with (negsuc 0) terms) ≡ pos 0 -ℤ ones (values_of values terms)
unfolding ones
sum-minus values [] = omega (arith, ints)
sum-minus values (t ∷ terms) =
    let rest = sum-minus values terms in
    let both = total_by-cons (product_at values) (place_with (negsuc 0) t) (each_with (negsuc 0) terms) in
    let here = minus_times (term_value values t) in
    omega (arith, ints)

abbrev pub AreBits : List ℤ → Type 0
AreBits xs = AllByRecursion IsBit xs

pub bits_of : (values : List ℤ) (terms : List Term) → AllByRecursion (λ (term : Term). IsBit (term_value values term)) terms → AreBits (values_of values terms)
bits_of values [] bits = tt
bits_of values (t ∷ terms) bits = (bits.0, bits_of values terms bits.1)

bit_ends : (x : ℤ) → IsBit x → (pos 0 ≤ℤ x) × (x ≤ℤ pos 1)
bit_ends x (inl e) = (omega (arith, ints), omega (arith, ints))
bit_ends x (inr e) = (omega (arith, ints), omega (arith, ints))

pub ones_ge : (xs : List ℤ) → AreBits xs → pos 0 ≤ℤ ones xs
unfolding ones
ones_ge [] bits = omega (arith, ints)
ones_ge (x ∷ xs) bits = let here = bit_ends x bits.0 in let rest = ones_ge xs bits.1 in omega (arith, ints)

pub ones_le : (xs : List ℤ) → AreBits xs → ones xs ≤ℤ pos (length xs)
unfolding ones
ones_le [] bits = omega (arith, ints)
ones_le (x ∷ xs) bits = let here = bit_ends x bits.0 in let rest = ones_le xs bits.1 in omega (arith, ints)

-- ---- all are 1

pub ones_of_all : (xs : List ℤ) → AllByRecursion (λ (x : ℤ). x ≡ pos 1) xs → ones xs ≡ pos (length xs)
unfolding ones
ones_of_all [] all = refl
ones_of_all (x ∷ xs) all = let here = all.0 in let rest = ones_of_all xs all.1 in omega (arith, ints)

pub all_of_ones : (xs : List ℤ) → AreBits xs → pos (length xs) ≤ℤ ones xs → AllByRecursion (λ (x : ℤ). x ≡ pos 1) xs
unfolding ones
all_of_ones [] bits many = tt
all_of_ones (x ∷ xs) bits many =
    let here = bit_ends x bits.0 in
    let rest = ones_le xs bits.1 in
    (omega (arith, ints), all_of_ones xs bits.1 (omega (arith, ints)))

-- ---- one is 1, or one is 0

pub ones_of_any : (xs : List ℤ) → AreBits xs → Any (λ (x : ℤ). x ≡ pos 1) xs → pos 1 ≤ℤ ones xs
unfolding ones
ones_of_any [] bits (k, x, below, at, is) = absurd (omega arith)
ones_of_any (x ∷ xs) bits (zero, y, below, at, is) = let rest = ones_ge xs bits.1 in omega (arith, ints)
ones_of_any (x ∷ xs) bits (suc k, y, below, at, is) =
    let here = bit_ends x bits.0 in
    let rest = ones_of_any xs bits.1 (k, y, omega arith, at, is) in
    omega (arith, ints)

pub any_of_ones : (xs : List ℤ) → AreBits xs → pos 1 ≤ℤ ones xs → Any (λ (x : ℤ). x ≡ pos 1) xs
unfolding ones
any_of_ones [] bits some = absurd (omega (arith, ints))
any_of_ones (x ∷ xs) bits some = elim bits.0 [
  | inl nought ↦ let rest = any_of_ones xs bits.1 (omega (arith, ints)) in (suc rest.0, rest.1, omega (arith, rest.2), rest.3, rest.4)
  | inr one ↦ (0, x, omega arith, refl, one)
]

pub ones_of_nought : (xs : List ℤ) → AreBits xs → Any (λ (x : ℤ). x ≡ pos 0) xs → ones xs ≤ℤ (pos (length xs) -ℤ pos 1)
unfolding ones
ones_of_nought [] bits (k, x, below, at, is) = absurd (omega arith)
ones_of_nought (x ∷ xs) bits (zero, y, below, at, is) = let rest = ones_le xs bits.1 in omega (arith, ints)
ones_of_nought (x ∷ xs) bits (suc k, y, below, at, is) =
    let here = bit_ends x bits.0 in
    let rest = ones_of_nought xs bits.1 (k, y, omega arith, at, is) in
    omega (arith, ints)

pub any_of_noughts : (xs : List ℤ) → AreBits xs → ones xs ≤ℤ (pos (length xs) -ℤ pos 1) → Any (λ (x : ℤ). x ≡ pos 0) xs
unfolding ones
any_of_noughts [] bits few = absurd (omega (arith, ints))
any_of_noughts (x ∷ xs) bits few = elim bits.0 [
  | inl nought ↦ (0, x, omega arith, refl, nought)
  | inr one ↦ let rest = any_of_noughts xs bits.1 (omega (arith, ints)) in (suc rest.0, rest.1, omega (arith, rest.2), rest.3, rest.4)
]
