-- Bits in words: the next, the last, and how many.
use Rattle.std.proofs.Common.{◌≡◌, ◌≢◌, ℕ, zero, suc, ◌+◌, ◌-◌, ◌*◌, ◌/◌, ◌%◌, ◌^◌, ◌<◌, ◌≤◌, Bool, true, false, nat_eq, List, length, take, drop, get_or, set, length-set, get_or-set_same, get_or-set_other, refl, sym, ap, ap₂, subst, ◌∙◌, inl, inr, arith, bit_and, bit_or, w64, rules, Option, None, Some, IfSome, IfNone}
use Rattle.std.specs.Int.{bit_at, trailing_zeros}
use Rattle.std.specs.Int.Count.{count_leading_zeros, ones}
use Rattle.std.proofs.lemmas.Bool.{cases_eq, cases_lt, eq-eqb, ne_eqb}
use Rattle.std.proofs.lemmas.Nat.{shr-shr, and_mask, le-div, div_below, mod-pow-add, leading_top, ones_cat, ones-le, div-mul-add, mod-mul-add, mod_below, pow_pos, shr_split, shr_le}
use Rattle.std.proofs.lemmas.List.{length-take, length-drop, get_or-take, get_or-drop}
use Rattle.std.proofs.lemmas.Grind.{common_steps}
use Rattle.std.proofs.lemmas.Nat.Bits.{ones_shr, bit_at-zero, bit_at-lt, bit_at_not, bit_at-trailing_zeros, bit_at_above, bit_at_cat_low, shr_and_one, bit_at_set_same, bit_at_set_other, bit_at_clear_same, bit_at_clear_other}
use Rattle.fzn_numbers.specs.Bits.{places, has_bit, IsGap, IsNextBit, IsLastBit, NoBitBelow, bits_below, IsWritten}

-- the lowest bits of a word
pub low_mask : (n count : ℕ) → count ≤ 64 → bit_and n (18446744073709551615 / 2 ^ (64 - count)) ≡ n % 2 ^ count
low_mask n count h =
    let back : 64 - (64 - count) ≡ count = omega arith in
    ap (λ (m : ℕ). bit_and n m) (ones_shr 64 (64 - count) (omega arith) ∙ ap (λ (k : ℕ). 2 ^ k - 1) back) ∙ and_mask n count

-- ---- a place and its word

module _ (words : List ℕ) where
  pub has_bit_at : (q i : ℕ) → i < 64 → has_bit words (q * 64 + i) ≡ nat_eq (bit_at (get_or words q 0) i) 1
  unfolding has_bit
  has_bit_at q i h = ap₂ (λ (a b : ℕ). nat_eq (bit_at (get_or words a 0) b) 1) (div-mul-add q 64 i h) (mod-mul-add q 64 i h)

  bit_on : (q i : ℕ) → i < 64 → bit_at (get_or words q 0) i ≡ 1 → has_bit words (q * 64 + i) ≡ true
  bit_on q i h is = has_bit_at q i h ∙ eq-eqb (bit_at (get_or words q 0) i) 1 is

  bit_off : (q i : ℕ) → i < 64 → bit_at (get_or words q 0) i ≡ 0 → has_bit words (q * 64 + i) ≡ false
  bit_off q i h is = has_bit_at q i h ∙ ne_eqb (bit_at (get_or words q 0) i) 1 (λ e. omega arith)

  pub is_set_there : (k : ℕ) → nat_eq (bit_and (get_or words (k / 64) 0 / 2 ^ (k % 64)) 1) 1 ≡ has_bit words k
  unfolding has_bit
  is_set_there k = ap (λ (n : ℕ). nat_eq n 1) (shr_and_one (get_or words (k / 64) 0) (k % 64))

  -- the places of one word
  off_in_word : (q : ℕ) (from end : ℕ) → q * 64 ≤ from → end ≤ q * 64 + 64 → ((i : ℕ) → from ≤ q * 64 + i → q * 64 + i < end → bit_at (get_or words q 0) i ≡ 0) → (k : ℕ) → from ≤ k → k < end → has_bit words k ≡ false
  off_in_word q from end low high off k h l =
      let i = k - q * 64 in
      let same : q * 64 + i ≡ k = omega arith in
      subst (λ (j : ℕ). has_bit words j ≡ false) same (bit_off q i (omega arith) (off i (omega arith) (omega arith)))

-- ---- the next bit

shifted : (w r i : ℕ) → bit_at (w / 2 ^ r) i ≡ bit_at w (r + i)
shifted w r i = ap (λ (n : ℕ). n % 2) (shr-shr w r i)

zero_and_one : (n : ℕ) → n ≡ 0 → n ≡ 1 → ⊥
zero_and_one n a b = omega arith

module _ (words : List ℕ) (from q r : ℕ) (split : from ≡ q * 64 + r) (r_low : r < 64) (q_in : q < length words) (fits : get_or words q 0 < 2 ^ 64) where
  pub next_in_word : (t : ℕ) → 0 < get_or words q 0 / 2 ^ r → t ≡ trailing_zeros w64 (get_or words q 0 / 2 ^ r) → IsNextBit words from (from + t)
  next_in_word t some is =
      let w = get_or words q 0 in
      let small : w / 2 ^ r < 2 ^ 64 = omega (arith, shr_le w r) in
      let found = bit_at-trailing_zeros w64 (w / 2 ^ r) some small in
      let here : bit_at w (r + t) ≡ 1 = sym (shifted w r t) ∙ ap (λ (n : ℕ). bit_at (w / 2 ^ r) n) is ∙ found.1 in
      let inside : r + t < 64 = elim (cases_lt (r + t) 64) [
        | inl lt ↦ lt
        | inr ge ↦ absurd (zero_and_one (bit_at w (r + t)) (bit_at_above w 64 (r + t) fits ge) here)
      ] in
      let same : q * 64 + (r + t) ≡ from + t = omega arith in
      record {
        from_there = omega arith;
        in_words = omega arith;
        set = subst (λ (k : ℕ). has_bit words k ≡ true) same (bit_on words q (r + t) inside here);
        first = off_in_word words q from (from + t) (omega arith) (omega arith) (λ i h l.
            let back : r + (i - r) ≡ i = omega arith in
            ap (λ (n : ℕ). bit_at w n) (sym back) ∙ sym (shifted w r (i - r)) ∙ found.2 (i - r) (lower i t (omega arith) is));
      } where
        lower : (i t : ℕ) → i - r < t → t ≡ trailing_zeros w64 (get_or words q 0 / 2 ^ r) → i - r < trailing_zeros w64 (get_or words q 0 / 2 ^ r)
        lower i t h e = omega arith

  pub none_in_word : get_or words q 0 / 2 ^ r ≡ 0 → (k : ℕ) → from ≤ k → k < q * 64 + 64 → has_bit words k ≡ false
  none_in_word none = off_in_word words q from (q * 64 + 64) (omega arith) (omega arith) (λ i h l.
      let back : r + (i - r) ≡ i = omega arith in
      ap (λ (n : ℕ). bit_at (get_or words q 0) n) (sym back) ∙ sym (shifted (get_or words q 0) r (i - r)) ∙ ap (λ (n : ℕ). bit_at n (i - r)) none ∙ bit_at-zero (i - r))

-- words of zeros before the next bit
module _ (words : List ℕ) (from at : ℕ) (none : (k : ℕ) → from ≤ k → k < at → has_bit words k ≡ false) where
  pub next_after : (place : ℕ) → from ≤ at → IsNextBit words at place → IsNextBit words from place
  next_after place low next = record {
    from_there = omega (arith, next.from_there);
    in_words = next.in_words;
    set = next.set;
    first = λ k h l. elim (cases_lt k at) [ inl lt ↦ none k h lt | inr ge ↦ next.first k ge l ];
  }

  pub none_after : (end k : ℕ) → ((k : ℕ) → at ≤ k → k < end → has_bit words k ≡ false) → from ≤ k → k < end → has_bit words k ≡ false
  none_after end k rest h l = elim (cases_lt k at) [ inl lt ↦ none k h lt | inr ge ↦ rest k ge l ]

over_one : (n : ℕ) → n ≡ n / 2 ^ 0
over_one n = omega arith

module _ (words : List ℕ) (first at : ℕ) (none : (k : ℕ) → first * 64 ≤ k → k < at * 64 → has_bit words k ≡ false) (low : first ≤ at) (in_words : at < length words) (fits : get_or words at 0 < 2 ^ 64) where
  pub next_of_words : (t : ℕ) → get_or words at 0 ≢ 0 → t ≡ trailing_zeros w64 (get_or words at 0) → IsNextBit words (first * 64) (at * 64 + t)
  next_of_words t some is =
      let whole = over_one (get_or words at 0) in
      next_after words (first * 64) (at * 64) none (at * 64 + t) (omega arith)
      (next_in_word words (at * 64) at 0 (omega arith) (omega arith) in_words fits t (omega arith) (is ∙ ap (λ (n : ℕ). trailing_zeros w64 n) whole))

  pub none_of_words : get_or words at 0 ≡ 0 → (k : ℕ) → first * 64 ≤ k → k < (at + 1) * 64 → has_bit words k ≡ false
  none_of_words zero_word k h l =
      none_after words (first * 64) (at * 64) none ((at + 1) * 64) k
      (λ j jh jl. none_in_word words (at * 64) at 0 (omega arith) (omega arith) in_words fits (sym (over_one (get_or words at 0)) ∙ zero_word) j jh (omega arith)) h l

-- ---- the last bit

module _ (words : List ℕ) (q r low : ℕ) (r_low : r ≤ 64) (low_is : low ≡ get_or words q 0 % 2 ^ r) where
  low_bit : (i : ℕ) → i < r → bit_at low i ≡ bit_at (get_or words q 0) i
  low_bit i h =
      let w = get_or words q 0 in
      ap (λ (n : ℕ). bit_at n i) low_is ∙ sym (bit_at_cat_low (w / 2 ^ r) r (w % 2 ^ r) i h) ∙ ap (λ (n : ℕ). bit_at n i) (shr_split w r)

  low_small : low < 2 ^ r
  low_small = subst (λ (n : ℕ). n < 2 ^ r) (sym low_is) (mod_below (get_or words q 0) (2 ^ r) (pow_pos r))

  pub last_in_word : (j : ℕ) → bit_at low j ≡ 1 → ((i : ℕ) → j < i → bit_at low i ≡ 0) → IsLastBit words (q * 64 + r) (q * 64 + j)
  last_in_word j top rest =
      let inside : j < r = elim (cases_lt j r) [
        | inl lt ↦ lt
        | inr ge ↦ absurd (zero_and_one (bit_at low j) (bit_at_above low r j low_small ge) top)
      ] in
      record {
        below = omega arith;
        set = bit_on words q j (omega arith) (sym (low_bit j inside) ∙ top);
        last = λ k h l. off_in_word words q (q * 64 + j + 1) (q * 64 + r) (omega arith) (omega arith) (λ i a b. sym (low_bit i (omega arith)) ∙ rest i (omega arith)) k (omega arith) l;
      }

  pub none_low : low ≡ 0 → (k : ℕ) → q * 64 ≤ k → k < q * 64 + r → has_bit words k ≡ false
  none_low none = off_in_word words q (q * 64) (q * 64 + r) (omega arith) (omega arith) (λ i a b. sym (low_bit i (omega arith)) ∙ ap (λ (n : ℕ). bit_at n i) none ∙ bit_at-zero i)

-- the top bit of a number, as its leading zeros give it
pub record IsTopBit (n j : ℕ) : Type 0 where
  pub top : bit_at n j ≡ 1
  pub rest : (i : ℕ) → j < i → bit_at n i ≡ 0

quotient_one : (n m : ℕ) → m ≤ n → n < 2 * m → n / m ≡ 1
quotient_one n m h l =
    let pos : 0 < m = omega arith in
    let low : 1 ≤ n / m = le-div 1 n m pos (omega arith) in
    let high : n / m < 2 = div_below n m 2 pos l in
    omega arith

pub top_bit : (n : ℕ) → 0 < n → n < 2 ^ 64 → (j : ℕ) × (count_leading_zeros 64 n + j + 1 ≡ 64) × IsTopBit n j
top_bit n some fits =
    let found = leading_top 64 n some fits in
    let j = found.0 in
    let low : 2 ^ j ≤ n = found.2 in
    let high : n < 2 ^ suc j = found.3 in
    let twice : 2 ^ suc j ≡ 2 * 2 ^ j = pow_twice j in (
      j,
      omega (arith, found.1),
      record {
        top = ap (λ (k : ℕ). k % 2) (quotient_one n (2 ^ j) low (omega arith));
        rest = λ i h. bit_at_above n (suc j) i high (omega arith);
      },
    )
  where
    pow_twice : (j : ℕ) → 2 ^ suc j ≡ 2 * 2 ^ j
    pow_twice j = grind (arith, common_steps)

module _ (words : List ℕ) (end q r low : ℕ) (split : end ≡ q * 64 + r) (r_low : r ≤ 64) (low_is : low ≡ get_or words q 0 % 2 ^ r) (fits : low < 2 ^ 64) where
  pub last_of_low : low ≢ 0 → IsLastBit words end (q * 64 + 63 - count_leading_zeros 64 low)
  last_of_low some =
      let found = top_bit low (omega arith) fits in
      let at : q * 64 + found.0 ≡ q * 64 + 63 - count_leading_zeros 64 low = omega (arith, found.1) in
      subst (λ (n : ℕ). IsLastBit words n (q * 64 + 63 - count_leading_zeros 64 low)) (sym split)
      (subst (λ (n : ℕ). IsLastBit words (q * 64 + r) n) at (last_in_word words q r low r_low low_is found.0 found.2.top found.2.rest))

-- zeros behind the last bit
pub last_before : (words : List ℕ) (at end place : ℕ) → at ≤ end → ((k : ℕ) → at ≤ k → k < end → has_bit words k ≡ false) → IsLastBit words at place → IsLastBit words end place
last_before words at end place h none found = record {
  below = omega (arith, found.below);
  set = found.set;
  last = λ k a b. elim (cases_lt k at) [ inl lt ↦ found.last k a lt | inr ge ↦ none k ge b ];
}

whole_word : (w : ℕ) → w < 2 ^ 64 → w ≡ w % 2 ^ 64
whole_word w h = omega arith

module _ (words : List ℕ) (end at : ℕ) (none : (k : ℕ) → at * 64 ≤ k → k < end * 64 → has_bit words k ≡ false) (high : at ≤ end) (some : 0 < at) (fits : get_or words (at - 1) 0 < 2 ^ 64) where
  pub last_of_words : get_or words (at - 1) 0 ≢ 0 → IsLastBit words (end * 64) (at * 64 - 1 - count_leading_zeros 64 (get_or words (at - 1) 0))
  last_of_words word =
      let w = get_or words (at - 1) 0 in
      let found = last_of_low words (at * 64) (at - 1) 64 w (omega arith) (omega arith) (whole_word w fits) fits word in
      let same : (at - 1) * 64 + 63 - count_leading_zeros 64 w ≡ at * 64 - 1 - count_leading_zeros 64 w = omega arith in
      last_before words (at * 64) (end * 64) (at * 64 - 1 - count_leading_zeros 64 w) (omega arith) none (subst (λ (n : ℕ). IsLastBit words (at * 64) n) same found)

  pub none_of_last : get_or words (at - 1) 0 ≡ 0 → (k : ℕ) → (at - 1) * 64 ≤ k → k < end * 64 → has_bit words k ≡ false
  none_of_last word k h l = elim (cases_lt k (at * 64)) [
    | inl lt ↦ none_low words (at - 1) 64 (get_or words (at - 1) 0) (omega arith) (whole_word (get_or words (at - 1) 0) fits) word k h (omega arith)
    | inr ge ↦ none k ge l
  ]

pub none_below_end : (words : List ℕ) (end q r low : ℕ) → end ≡ q * 64 + r → r ≤ 64 → low ≡ get_or words q 0 % 2 ^ r → low ≡ 0 → NoBitBelow words (q * 64) → NoBitBelow words end
none_below_end words end q r low split r_low low_is none before k h = elim (cases_lt k (q * 64)) [
  | inl lt ↦ before k lt
  | inr ge ↦ none_low words q r low r_low low_is none k ge (omega arith)
]

-- ---- counts

one_bit : (n : ℕ) → n < 2 → ones n ≡ n
unfolding ones
one_bit zero h = refl
one_bit (suc zero) h = refl
one_bit (suc (suc n)) h = absurd (omega arith)

ones_next : (w r : ℕ) → ones (w % 2 ^ (1 + r)) ≡ ones (w % 2 ^ r) + bit_at w r
ones_next w r =
    let parts = ap ones (mod-pow-add w 1 r) ∙ ones_cat r (w / 2 ^ r % 2 ^ 1) (w % 2 ^ r) (mod_below w (2 ^ r) (pow_pos r)) in
    omega (arith, parts, one_bit (w / 2 ^ r % 2) (bit_at-lt w r))

bits_next : (words : List ℕ) (n : ℕ) → bits_below words (n + 1) ≡ bits_below words n + bit_at (get_or words (n / 64) 0) (n % 64)
unfolding bits_below
bits_next words n = ap (λ (k : ℕ). bits_below words k) (sym (after n)) where
  after : (n : ℕ) → suc n ≡ n + 1
  after n = omega arith

pub bits_in_word : (words : List ℕ) (q r : ℕ) → r ≤ 64 → ones (get_or words q 0 % 2 ^ r) + bits_below words (q * 64) ≡ bits_below words (q * 64 + r)
bits_in_word words q zero h =
    let none : get_or words q 0 % 1 ≡ 0 = omega arith in
    let same : q * 64 ≡ q * 64 + 0 = omega arith in
    omega (arith, ap ones none, one_bit 0, ap (λ (n : ℕ). bits_below words n) same)
bits_in_word words q (suc r) h =
    let before = bits_in_word words q r (omega arith) in
    let more = ones_next (get_or words q 0) r in
    let here : bit_at (get_or words ((q * 64 + r) / 64) 0) ((q * 64 + r) % 64) ≡ bit_at (get_or words q 0) r =
    ap₂ (λ (a b : ℕ). bit_at (get_or words a 0) b) (div-mul-add q 64 r (omega arith)) (mod-mul-add q 64 r (omega arith)) in
    let count : 1 + r ≡ suc r = omega arith in
    let place : q * 64 + r + 1 ≡ q * 64 + suc r = omega arith in
    omega (arith, before, more, here, bits_next words (q * 64 + r), ap (λ (n : ℕ). ones (get_or words q 0 % 2 ^ n)) count, ap (λ (n : ℕ). bits_below words n) place)

-- a whole word more
pub bits_with_word : (words : List ℕ) (q : ℕ) → get_or words q 0 < 2 ^ 64 → ones (get_or words q 0) + bits_below words (q * 64) ≡ bits_below words ((q + 1) * 64)
bits_with_word words q fits =
    let place : q * 64 + 64 ≡ (q + 1) * 64 = omega arith in
    omega (arith, bits_in_word words q 64 (omega arith), ap ones (whole_word (get_or words q 0) fits), ap (λ (n : ℕ). bits_below words n) place)

-- the bits below a place, by its word
pub bits_by_word : (words : List ℕ) (place low : ℕ) → low ≡ get_or words (place / 64) 0 % 2 ^ (place % 64) → ones low + bits_below words (place / 64 * 64) ≡ bits_below words place
bits_by_word words place low is =
    let split : place / 64 * 64 + place % 64 ≡ place = omega arith in
    omega (arith, bits_in_word words (place / 64) (place % 64) (omega arith), ap ones is, ap (λ (n : ℕ). bits_below words n) split)

pub ones_few : (w : ℕ) → w < 2 ^ 64 → ones w ≤ 64
ones_few w h = ones-le 64 w h

pub bits_rise : (words : List ℕ) (n k : ℕ) → bits_below words n ≤ bits_below words (n + k)
bits_rise words n zero = let same : n + 0 ≡ n = omega arith in omega (arith, ap (λ (m : ℕ). bits_below words m) same)
bits_rise words n (suc k) =
    let same : n + suc k ≡ n + k + 1 = omega arith in
    omega (arith, bits_rise words n k, bits_next words (n + k), ap (λ (m : ℕ). bits_below words m) same)

-- ---- one bit is written

module _ (words : List ℕ) (place x : ℕ) (bit : Bool) (inside : place < places words) (here_is : nat_eq (bit_at x (place % 64)) 1 ≡ bit) (others : (i : ℕ) → i < 64 → i ≢ place % 64 → bit_at x i ≡ bit_at (get_or words (place / 64) 0) i) where
  pub written : IsWritten words (set words (place / 64) x) place bit
  unfolding has_bit
  written =
      let q_in : place / 64 < length words = omega arith in
      let now = get_or-set_same words (place / 64) x 0 q_in in
      record {
        same_length = length-set words (place / 64) x;
        here = ap (λ (n : ℕ). nat_eq (bit_at n (place % 64)) 1) now ∙ here_is;
        elsewhere = λ k apart. elim (cases_eq (k / 64) (place / 64)) [
          | inl same ↦
              let differ : k % 64 ≢ place % 64 = λ e. apart (omega arith) in
              ap (λ (q : ℕ). nat_eq (bit_at (get_or (set words (place / 64) x) q 0) (k % 64)) 1) same
              ∙ ap (λ (n : ℕ). nat_eq (bit_at n (k % 64)) 1) now
              ∙ ap (λ (n : ℕ). nat_eq n 1) (others (k % 64) (omega arith) differ)
              ∙ ap (λ (q : ℕ). nat_eq (bit_at (get_or words q 0) (k % 64)) 1) (sym same)
          | inr other ↦ ap (λ (n : ℕ). nat_eq (bit_at n (k % 64)) 1) (get_or-set_other words (place / 64) (k / 64) x 0 other)
        ];
      }

-- `w | 1 << i` and `w & !(1 << i)`
pub set_written : (words : List ℕ) (place : ℕ) → place < places words → IsWritten words (set words (place / 64) (bit_or (get_or words (place / 64) 0) (1 * 2 ^ (place % 64) % 18446744073709551616))) place true
set_written words place inside =
    let w = get_or words (place / 64) 0 in
    written words place (bit_or w (1 * 2 ^ (place % 64) % 18446744073709551616)) true inside
    (eq-eqb (bit_at (bit_or w (1 * 2 ^ (place % 64) % 18446744073709551616)) (place % 64)) 1 (bit_at_set_same w64 w (place % 64) (omega arith)))
    (λ i h apart. bit_at_set_other w64 w (place % 64) (omega arith) i apart)

pub clear_written : (words : List ℕ) (place : ℕ) → place < places words → IsWritten words (set words (place / 64) (bit_and (get_or words (place / 64) 0) (18446744073709551615 - 1 * 2 ^ (place % 64) % 18446744073709551616))) place false
clear_written words place inside =
    let w = get_or words (place / 64) 0 in
    let off = bit_at_clear_same w64 w (place % 64) (omega arith) in
    written words place (bit_and w (18446744073709551615 - 1 * 2 ^ (place % 64) % 18446744073709551616)) false inside
    (ne_eqb (bit_at (bit_and w (18446744073709551615 - 1 * 2 ^ (place % 64) % 18446744073709551616)) (place % 64)) 1 (λ e. zero_and_one _ off e))
    (λ i h apart. bit_at_clear_other w64 w (place % 64) (omega arith) i h apart)

-- ---- the next bit that is not set

on_in_word : (words : List ℕ) (q from end : ℕ) → q * 64 ≤ from → end ≤ q * 64 + 64 → ((i : ℕ) → from ≤ q * 64 + i → q * 64 + i < end → bit_at (get_or words q 0) i ≡ 1) → (k : ℕ) → from ≤ k → k < end → has_bit words k ≡ true
on_in_word words q from end low high on k h l =
    let i = k - q * 64 in
    let same : q * 64 + i ≡ k = omega arith in
    subst (λ (j : ℕ). has_bit words j ≡ true) same (bit_on words q i (omega arith) (on i (omega arith) (omega arith)))

zero_turned : (n : ℕ) → 1 - n ≡ 1 → n ≡ 0
zero_turned n h = omega arith

one_turned : (n : ℕ) → 1 - n ≡ 0 → n < 2 → n ≡ 1
one_turned n h l = omega arith

module _ (words : List ℕ) (from q r not_word : ℕ) (split : from ≡ q * 64 + r) (r_low : r < 64) (q_in : q < length words) (fits : get_or words q 0 < 2 ^ 64) (not_is : not_word ≡ 18446744073709551615 - get_or words q 0) where
  turned_bit : (i : ℕ) → i < 64 → bit_at not_word i ≡ 1 - bit_at (get_or words q 0) i
  turned_bit i h = ap (λ (n : ℕ). bit_at n i) not_is ∙ bit_at_not w64 (get_or words q 0) i fits h

  pub gap_in_word : (t : ℕ) → 0 < not_word / 2 ^ r → t ≡ trailing_zeros w64 (not_word / 2 ^ r) → IsGap words from (from + t)
  gap_in_word t some is =
      let small : not_word / 2 ^ r < 2 ^ 64 = omega (arith, shr_le not_word r) in
      let found = bit_at-trailing_zeros w64 (not_word / 2 ^ r) some small in
      let here : bit_at not_word (r + t) ≡ 1 = sym (shifted not_word r t) ∙ ap (λ (n : ℕ). bit_at (not_word / 2 ^ r) n) is ∙ found.1 in
      let fits_not : not_word < 2 ^ 64 = omega arith in
      let inside : r + t < 64 = elim (cases_lt (r + t) 64) [
        | inl lt ↦ lt
        | inr ge ↦ absurd (zero_and_one (bit_at not_word (r + t)) (bit_at_above not_word 64 (r + t) fits_not ge) here)
      ] in
      let same : q * 64 + (r + t) ≡ from + t = omega arith in
      record {
        from_there = omega arith;
        in_words = omega arith;
        unset = λ _. subst (λ (k : ℕ). has_bit words k ≡ false) same (bit_off words q (r + t) inside (zero_turned (bit_at (get_or words q 0) (r + t)) (sym (turned_bit (r + t) inside) ∙ here)));
        run = on_in_word words q from (from + t) (omega arith) (omega arith) (λ i h l.
            let back : r + (i - r) ≡ i = omega arith in
            let off : bit_at not_word i ≡ 0 = ap (λ (n : ℕ). bit_at not_word n) (sym back) ∙ sym (shifted not_word r (i - r)) ∙ found.2 (i - r) (lower i t (omega arith) is) in
            one_turned (bit_at (get_or words q 0) i) (sym (turned_bit i (omega arith)) ∙ off) (bit_at-lt (get_or words q 0) i));
      } where
        lower : (i t : ℕ) → i - r < t → t ≡ trailing_zeros w64 (not_word / 2 ^ r) → i - r < trailing_zeros w64 (not_word / 2 ^ r)
        lower i t h e = omega arith

  pub all_in_word : not_word / 2 ^ r ≡ 0 → (k : ℕ) → from ≤ k → k < q * 64 + 64 → has_bit words k ≡ true
  all_in_word none = on_in_word words q from (q * 64 + 64) (omega arith) (omega arith) (λ i h l.
      let back : r + (i - r) ≡ i = omega arith in
      let off : bit_at not_word i ≡ 0 = ap (λ (n : ℕ). bit_at not_word n) (sym back) ∙ sym (shifted not_word r (i - r)) ∙ ap (λ (n : ℕ). bit_at n (i - r)) none ∙ bit_at-zero (i - r) in
      one_turned (bit_at (get_or words q 0) i) (sym (turned_bit i (omega arith)) ∙ off) (bit_at-lt (get_or words q 0) i))

-- words of ones before the gap
pub gap_after : (words : List ℕ) (from at place : ℕ) → from ≤ at → ((k : ℕ) → from ≤ k → k < at → has_bit words k ≡ true) → IsGap words at place → IsGap words from place
gap_after words from at place low all gap = record {
  from_there = omega (arith, gap.from_there);
  in_words = gap.in_words;
  unset = gap.unset;
  run = λ k h l. elim (cases_lt k at) [ inl lt ↦ all k h lt | inr ge ↦ gap.run k ge l ];
}

module _ (words : List ℕ) (first at rest : ℕ) (all : (k : ℕ) → first * 64 ≤ k → k < at * 64 → has_bit words k ≡ true) (low : first ≤ at) (in_words : at < length words) (fits : get_or words at 0 < 2 ^ 64) (rest_is : rest ≡ 18446744073709551615 - get_or words at 0) where
  pub gap_of_words : (t : ℕ) → rest ≢ 0 → t ≡ trailing_zeros w64 rest → IsGap words (first * 64) (at * 64 + t)
  gap_of_words t some is =
      let whole = over_one rest in
      gap_after words (first * 64) (at * 64) (at * 64 + t) (omega arith) all
      (gap_in_word words (at * 64) at 0 rest (omega arith) (omega arith) in_words fits rest_is t (omega arith) (is ∙ ap (λ (n : ℕ). trailing_zeros w64 n) whole))

  pub all_of_words : rest ≡ 0 → (k : ℕ) → first * 64 ≤ k → k < (at + 1) * 64 → has_bit words k ≡ true
  all_of_words none k h l = elim (cases_lt k (at * 64)) [
    | inl lt ↦ all k h lt
    | inr ge ↦ all_in_word words (at * 64) at 0 rest (omega arith) (omega arith) in_words fits rest_is (sym (over_one rest) ∙ none) k ge (omega arith)
  ]

-- ---- what a call found, said of another place

pub some_mapped : {P Q : ℕ → Type 0} (o : Option ℕ) → ((n : ℕ) → P n → Q n) → IfSome o P → IfSome o Q
some_mapped None f h = search rules
some_mapped (Some n) f h = f n h

pub none_mapped : {P Q : Type 0} (o : Option ℕ) → (P → Q) → IfNone o P → IfNone o Q
none_mapped None f h = f h
none_mapped (Some n) f h = search rules

-- ---- a run of words

module _ (words : List ℕ) (a b i : ℕ) (inside : i < length (take (b - a) (drop a words))) where
  word_of_run : get_or (take (b - a) (drop a words)) i 0 ≡ get_or words (a + i) 0
  word_of_run =
      let count : i < b - a = omega (arith, length-take (b - a) (drop a words)) in
      get_or-take (b - a) (drop a words) i 0 count ∙ get_or-drop a words i 0

  pub run_few : get_or words (a + i) 0 < 2 ^ 64 → ones (get_or (take (b - a) (drop a words)) i 0) ≤ 64
  run_few h = omega (arith, ap ones word_of_run, ones_few (get_or words (a + i) 0) h)

  pub run_next : get_or words (a + i) 0 < 2 ^ 64 → ones (get_or (take (b - a) (drop a words)) i 0) + bits_below words ((a + i) * 64) ≡ bits_below words ((a + (i + 1)) * 64)
  run_next h =
      let place : a + i + 1 ≡ a + (i + 1) = omega arith in
      omega (arith, bits_with_word words (a + i) h, ap ones word_of_run, ap (λ (n : ℕ). bits_below words (n * 64)) place)

-- the run has ended
pub run_ends : (words : List ℕ) (a b i : ℕ) → a ≤ b → b ≤ length words → length (take (b - a) (drop a words)) ≤ i → i ≤ length (take (b - a) (drop a words)) → a + i ≡ b
run_ends words a b i h l k m = omega (arith, length-take (b - a) (drop a words), length-drop a words)
