-- Bits that two lists of words have in common.
use Rattle.std.proofs.Common.{◌≡◌, ◌≢◌, ℕ, zero, suc, ◌+◌, ◌-◌, ◌*◌, ◌/◌, ◌%◌, ◌^◌, ◌<◌, ◌≤◌, List, [], ◌∷◌, length, drop, get_or, refl, sym, ap, ap₂, subst, ◌∙◌, inl, inr, arith, bit_and, bit_or, w64, min}
use Rattle.std.specs.Int.{bit_at, trailing_zeros}
use Rattle.std.specs.Int.Bits.{and_lt, and_zero_l, and_zero_r}
use Rattle.std.specs.Simd.{first_chunks}
use Rattle.std.specs.Simd.Lanes.{fold_l, zip2}
use Rattle.std.proofs.lemmas.Bool.{cases_lt, eq-eqb, eqb-true}
use Rattle.std.proofs.lemmas.Nat.{le_or_l, le_or_r}
use Rattle.std.proofs.lemmas.Nat.Bits.{bit_at-zero, bit_at-lt, bit_at_and, bit_at-trailing_zeros}
use Rattle.std.proofs.lemmas.List.{get_or_past, get_or-take, get_or-drop}
use Rattle.fzn_domain.specs.Bits.{has_bit}
use Rattle.fzn_domain.proofs.BitLemmas.{has_bit_at}
use Rattle.fzn_table.specs.Words.{IsCommon, IsFirstCommon, NoneCommon, HaveNoCommonBit}

-- ---- the bits of a word

both_one : (a b : ℕ) → a ≡ 1 → b ≡ 1 → min a b ≡ 1
both_one a b h k = omega arith

one_of_both : (a b : ℕ) → a < 2 → b < 2 → min a b ≡ 1 → (a ≡ 1) × (b ≡ 1)
one_of_both a b h k is = (omega arith, omega arith)

zero_and_one : (n : ℕ) → n ≡ 0 → n ≡ 1 → ⊥
zero_and_one n a b = omega arith

module _ (words others : List ℕ) where
  abbrev both : ℕ → ℕ
  both q = bit_and (get_or words q 0) (get_or others q 0)

  common_in_word : (place : ℕ) → IsCommon words others place → bit_at (both (place / 64)) (place % 64) ≡ 1
  unfolding has_bit
  common_in_word place common =
      bit_at_and (get_or words (place / 64) 0) (get_or others (place / 64) 0) (place % 64)
      ∙ both_one _ _ (eqb-true _ 1 common.0) (eqb-true _ 1 common.1)

  none_below : (count : ℕ) → HaveNoCommonBit words others count → (place : ℕ) → place < count * 64 → IsCommon words others place → ⊥
  none_below count apart place below common =
      zero_and_one _ (ap (λ (n : ℕ). bit_at n (place % 64)) (apart (place / 64) (omega arith)) ∙ bit_at-zero (place % 64)) (common_in_word place common)

  -- the lowest bit in common of the first two words with one
  pub found_in_word : (q : ℕ) → HaveNoCommonBit words others q → get_or words q 0 < 2 ^ 64 → get_or others q 0 < 2 ^ 64 → both q ≢ 0 → IsFirstCommon words others (q * 64 + trailing_zeros w64 (both q))
  found_in_word q apart fits others_fit some =
      let t = trailing_zeros w64 (both q) in
      let found = bit_at-trailing_zeros w64 (both q) (omega arith) (and_lt 64 (get_or words q 0) (get_or others q 0) fits others_fit) in
      let inside : t < 64 = found.0 in
      let ones = one_of_both (bit_at (get_or words q 0) t) (bit_at (get_or others q 0) t) (bit_at-lt _ t) (bit_at-lt _ t) (sym (bit_at_and (get_or words q 0) (get_or others q 0) t) ∙ found.1) in
      record {
        common = (has_bit_at words q t inside ∙ eq-eqb _ 1 ones.0, has_bit_at others q t inside ∙ eq-eqb _ 1 ones.1);
        none_below = λ place below common. elim (cases_lt place (q * 64)) [
          | inl lt ↦ none_below q apart place lt common
          | inr ge ↦
              let at : place / 64 ≡ q = omega arith in
              zero_and_one _ (found.2 (place % 64) (omega arith)) (subst (λ (w : ℕ). bit_at (both w) (place % 64) ≡ 1) at (common_in_word place common))
        ];
      }

-- ---- four words at a time

fold_from : (a : ℕ) (zs : List ℕ) → a ≤ fold_l bit_or a zs
fold_from a [] = omega arith
fold_from a (z ∷ zs) = omega (arith, le_or_l a z, fold_from (bit_or a z) zs)

fold_each : (a : ℕ) (zs : List ℕ) (q : ℕ) → get_or zs q 0 ≤ fold_l bit_or a zs
fold_each a [] q = omega arith
fold_each a (z ∷ zs) zero = omega (arith, le_or_r a z, fold_from (bit_or a z) zs)
fold_each a (z ∷ zs) (suc q) = fold_each (bit_or a z) zs q

each_and : (xs ys : List ℕ) (q : ℕ) → get_or (zip2 bit_and xs ys) q 0 ≡ bit_and (get_or xs q 0) (get_or ys q 0)
each_and [] ys q = sym (and_zero_l (get_or ys q 0))
each_and (x ∷ xs) [] q = sym (and_zero_r (get_or (x ∷ xs) q 0))
each_and (x ∷ xs) (y ∷ ys) zero = refl
each_and (x ∷ xs) (y ∷ ys) (suc q) = each_and xs ys q

-- no bit of all lanes together is set
pub lanes_apart : (xs ys : List ℕ) → fold_l bit_or 0 (zip2 bit_and xs ys) ≡ 0 → (count : ℕ) → HaveNoCommonBit xs ys count
lanes_apart xs ys none count q below =
    let here = each_and xs ys q in
    omega (arith, here, fold_each 0 (zip2 bit_and xs ys) q)

-- a word of a block, where it stands in the list
in_block : (xs : List ℕ) (count i q : ℕ) (d : List ℕ) → i < count → q < 4 → get_or (get_or (first_chunks 4 count xs) i d) q 0 ≡ get_or xs (i * 4 + q) 0
in_block xs zero i q d below inside = absurd (omega arith)
in_block xs (suc count) zero q d below inside =
    let at : q ≡ 0 * 4 + q = omega arith in
    get_or-take 4 xs q 0 inside ∙ ap (λ (k : ℕ). get_or xs k 0) at
in_block xs (suc count) (suc i) q d below inside =
    let at : 4 + (i * 4 + q) ≡ suc i * 4 + q = omega arith in
    in_block (drop 4 xs) count i q d (omega arith) inside ∙ get_or-drop 4 xs (i * 4 + q) 0 ∙ ap (λ (k : ℕ). get_or xs k 0) at

-- one block more
pub apart_more : (words others : List ℕ) (blocks other_blocks : List (List ℕ)) (count other_count i : ℕ) (d e : List ℕ) → blocks ≡ first_chunks 4 count words → other_blocks ≡ first_chunks 4 other_count others → i < count → i < other_count → HaveNoCommonBit words others (i * 4) → HaveNoCommonBit (get_or blocks i d) (get_or other_blocks i e) 4 → HaveNoCommonBit words others ((i + 1) * 4)
apart_more words others blocks other_blocks count other_count i d e is other_is below other_below before block q inside = elim (cases_lt q (i * 4)) [
  | inl lt ↦ before q lt
  | inr ge ↦
      let k = q - i * 4 in
      let at : i * 4 + k ≡ q = omega arith in
      let low : k < 4 = omega arith in
      let word = ap (λ (xs : List (List ℕ)). get_or (get_or xs i d) k 0) is ∙ in_block words count i k d below low in
      let other = ap (λ (xs : List (List ℕ)). get_or (get_or xs i e) k 0) other_is ∙ in_block others other_count i k e other_below low in
      subst (λ (k : ℕ). bit_and (get_or words k 0) (get_or others k 0) ≡ 0) at
      (sym (ap₂ (λ (a b : ℕ). bit_and a b) word other) ∙ block k low)
]

-- ---- all words

beyond : (words others : List ℕ) (q : ℕ) → min (length words) (length others) ≤ q → bit_and (get_or words q 0) (get_or others q 0) ≡ 0
beyond words others q h = elim (cases_lt q (length words)) [
  | inl lt ↦ rw (get_or_past others q 0 (omega arith)) (and_zero_r (get_or words q 0))
  | inr ge ↦ rw (get_or_past words q 0 ge) (and_zero_l (get_or others q 0))
]

pub none_common : (words others : List ℕ) (count : ℕ) → min (length words) (length others) ≤ count → HaveNoCommonBit words others count → NoneCommon words others
none_common words others count whole apart place =
    none_below words others (place / 64 + 1) (λ q below. elim (cases_lt q count) [
      | inl lt ↦ apart q lt
      | inr ge ↦ beyond words others q (omega arith)
    ]) place (omega arith)
