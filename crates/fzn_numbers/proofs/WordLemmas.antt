-- Bits in one word: as in a list of words that has no other.
use Rattle.std.proofs.Common.{◌≡◌, ℕ, ◌+◌, ◌-◌, ◌*◌, ◌/◌, ◌%◌, ◌^◌, ◌<◌, ◌≤◌, true, false, nat_eq, [], ◌∷◌, set, get_or, sym, ap, subst₂, refl, ◌∙◌, arith, bit_and, bit_or, ℤ, pos, ◌+ℤ◌, ◌<ℤ◌, ◌≤ℤ◌, FitsSigned, w64}
use Rattle.std.specs.Int.Count.{ones}
use Rattle.std.proofs.lemmas.Nat.Bits.{shr_and_one}
use Rattle.std.proofs.lemmas.Int.{ints}
use Rattle.fzn_numbers.specs.Bits.{CanBeFirst}
use Rattle.fzn_numbers.specs.Bits.{has_bit, IsGap, NoBitBelow, bits_below, IsWritten, place_from}
use Rattle.fzn_numbers.proofs.BitLemmas.{has_bit_at, all_in_word, none_below_end, bits_in_word, bits_rise, set_written, clear_written}
use Rattle.fzn_numbers.proofs.BitSetLemmas.{bits_below_none}

pub one_bit_is_set : (w place : ℕ) → place < 64 → nat_eq (bit_and (w / 2 ^ place) 1) 1 ≡ has_bit (w ∷ []) place
one_bit_is_set w place h =
    let alone : 0 * 64 + place ≡ place = omega arith in
    ap (λ (n : ℕ). nat_eq n 1) (shr_and_one w place) ∙ sym (has_bit_at (w ∷ []) 0 place h) ∙ ap (λ (k : ℕ). has_bit (w ∷ []) k) alone

-- no bit is missing from the place on
pub gap_behind_word : (w from : ℕ) → from < 64 → w < 2 ^ 64 → (18446744073709551615 - w) / 2 ^ from ≡ 0 → IsGap (w ∷ []) from 64
gap_behind_word w from h fits none = record {
  from_there = omega arith;
  in_words = omega arith;
  unset = λ less. absurd (omega arith);
  run = λ k a b. all_in_word (w ∷ []) from 0 from (18446744073709551615 - w) (omega arith) h (omega arith) fits refl none k a b;
}

pub none_below_in_word : (w end low : ℕ) → end ≤ 64 → low ≡ w % 2 ^ end → low ≡ 0 → NoBitBelow (w ∷ []) end
none_below_in_word w end low h is none = none_below_end (w ∷ []) end 0 end low (omega arith) h is none (λ k l. absurd (omega arith))

pub ones_below : (w place low : ℕ) → place ≤ 64 → low ≡ w % 2 ^ place → ones low ≡ bits_below (w ∷ []) place
ones_below w place low h is =
    let alone : 0 * 64 + place ≡ place = omega arith in
    omega (arith, ap ones is, bits_in_word (w ∷ []) 0 place h, bits_below_none (w ∷ []), ap (λ (k : ℕ). bits_below (w ∷ []) k) alone)

pub ones_rise : (w from end : ℕ) → from ≤ end → bits_below (w ∷ []) from ≤ bits_below (w ∷ []) end
ones_rise w from end h =
    let rest : from + (end - from) ≡ end = omega arith in
    omega (arith, bits_rise (w ∷ []) from (end - from), ap (λ (k : ℕ). bits_below (w ∷ []) k) rest)

-- ---- numbers near the first

pub near_fits : (first v : ℤ) → CanBeFirst first → first ≤ℤ v → v <ℤ (first +ℤ pos 64) → FitsSigned w64 v
near_fits first v can h l = omega (arith, ints, can.before, can.behind)

pub near_place : (first v : ℤ) (place : ℕ) → v ≡ first +ℤ pos place → v <ℤ (first +ℤ pos 64) → place < 64
near_place first v place e h = omega (arith, ints)

pub place_behind : (first v : ℤ) → (first +ℤ pos 64) ≤ℤ v → 64 ≡ place_from first 64 v
place_behind first v h = grind (arith, ints)

-- ---- one bit is written

module _ (w place : ℕ) (inside : place < 64) where
  only_word : place / 64 ≡ 0
  only_word = omega arith

  same_place : place % 64 ≡ place
  same_place = omega arith

  pub word_set : IsWritten (w ∷ []) (bit_or w (1 * 2 ^ place % 18446744073709551616) ∷ []) place true
  word_set = subst₂ (λ (q r : ℕ). IsWritten (w ∷ []) (set (w ∷ []) q (bit_or (get_or (w ∷ []) q 0) (1 * 2 ^ r % 18446744073709551616))) place true) only_word same_place (set_written (w ∷ []) place inside)

  pub word_cleared : IsWritten (w ∷ []) (bit_and w (18446744073709551615 - 1 * 2 ^ place % 18446744073709551616) ∷ []) place false
  word_cleared = subst₂ (λ (q r : ℕ). IsWritten (w ∷ []) (set (w ∷ []) q (bit_and (get_or (w ∷ []) q 0) (18446744073709551615 - 1 * 2 ^ r % 18446744073709551616))) place false) only_word same_place (clear_written (w ∷ []) place inside)
