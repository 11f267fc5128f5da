-- The set of numbers that words stand for.
use Rattle.std.proofs.Common.{◌≡◌, ◌≢◌, ℕ, zero, suc, ◌+◌, ◌*◌, ◌/◌, ◌%◌, ◌<◌, ◌≤◌, Bool, true, false, not, ◌&&◌, ◌||◌, nat_eq, ℤ, pos, ◌+ℤ◌, ◌-ℤ◌, ◌<ℤ◌, ◌≤ℤ◌, int_le, int_lt, int_eq, FitsSigned, to_z, of_z, w64, List, length, get_or, replicate, refl, sym, ap, ap₂, ◌∙◌, inl, inr, arith}
use Rattle.std.specs.Int.{bit_at}
use Rattle.std.specs.FinSet as set
use Rattle.std.proofs.lemmas.Int.{ints}
use Rattle.std.proofs.lemmas.Bool.{cases_Bool, cases_eq, cases_lt, and_parts, or_right, true≢false, eq-eqb}
use Rattle.std.proofs.lemmas.List.{get_or-replicate, get_or_past, length-replicate}
use Rattle.std.proofs.lemmas.Nat.Bits.{bit_at-zero, bit_at-lt, bit_at_ones}
use Rattle.std.proofs.lemmas.Bool.Decides.{Decides-int_eq, nat_tests}
use Rattle.fzn_numbers.specs.Ascending.{IsNextFrom, IsLastUpTo, NoneFrom, NoneUpTo}
use Rattle.fzn_numbers.specs.Bits.{places, has_bit, IsGap, members, place_from, whole_words, IsNextBit, NoBitFrom, IsLastBit, NoBitBelow, bits_below, IsWritten}
use Rattle.fzn_numbers.specs.IntSet.{IntSet, contains, size, no_values, numbers_from, natural_part, width, within, below, IsRunEnd}
use Rattle.fzn_numbers.specs.Bits.{CanBeFirst}
use Rattle.fzn_numbers.proofs.NumberLemmas.{real, test_le, test_lt}
use Rattle.fzn_numbers.proofs.SetLemmas.{same_by_members, contains-no_values, contains-retain, contains-numbers_from, in_numbers_from, contains-insert, contains-remove, size-no_values, size-retain_parts, retained, contains_retained}
use Rattle.fzn_numbers.proofs.CountLemmas.{below_next, upto_member, upto_other, in_below, of_below}

-- ---- numbers and places

place_of_number : (first v : ℤ) → first ≤ℤ v → v ≡ first +ℤ pos (natural_part (v -ℤ first))
place_of_number first v h = grind (arith, ints)

place_of_sum : (first : ℤ) (k : ℕ) → natural_part (first +ℤ pos k -ℤ first) ≡ k
place_of_sum first k = grind (arith, ints)

from_first : (first : ℤ) (k : ℕ) → int_le first (first +ℤ pos k) ≡ true
from_first first k = grind (arith, ints)

before_end : (first : ℤ) (k n : ℕ) → k < n → int_lt (first +ℤ pos k) (first +ℤ pos n) ≡ true
before_end first k n h = grind (arith, ints)

in_span : (first v : ℤ) (n : ℕ) → int_le first v ≡ true → int_lt v (first +ℤ pos n) ≡ true → natural_part (v -ℤ first) < n
in_span first v n h l = grind (arith, ints)

le_of : (u v : ℤ) → int_le u v ≡ true → u ≤ℤ v
le_of u v h = omega (arith, ints)

pub place_low : (first bound : ℤ) (n k : ℕ) → place_from first n bound ≤ k → k < n → bound ≤ℤ (first +ℤ pos k)
place_low first bound n k h l = grind (arith, ints)

pub place_high : (first bound : ℤ) (n k : ℕ) → bound ≤ℤ (first +ℤ pos k) → place_from first n bound ≤ k
place_high first bound n k h = grind (arith, ints)

pub place_rises : (first low high : ℤ) (n : ℕ) → low ≤ℤ high → place_from first n low ≤ place_from first n high
place_rises first low high n h = grind (arith, ints)

pub place_few : (first v : ℤ) (n : ℕ) → place_from first n v ≤ n
place_few first v n = omega arith

-- ---- bits that the words have at once

no_bit : (n k : ℕ) → has_bit (replicate n 0) k ≡ false
unfolding has_bit
no_bit n k = ap (λ (w : ℕ). nat_eq (bit_at w (k % 64)) 1) (zeros n (k / 64) 0) ∙ ap (λ (b : ℕ). nat_eq b 1) (bit_at-zero (k % 64)) where
  zeros : (n i z : ℕ) → get_or (replicate n z) i z ≡ z
  zeros n i z = elim (cases_lt i n) [
    | inl lt ↦ get_or-replicate n i z z lt
    | inr ge ↦ get_or_past (replicate n z) i z (omega (arith, length-replicate n z))
  ]

each_bit : (n k : ℕ) → k < n * 64 → has_bit (replicate n 18446744073709551615) k ≡ true
unfolding has_bit
each_bit n k h =
    ap (λ (w : ℕ). nat_eq (bit_at w (k % 64)) 1) (get_or-replicate n (k / 64) 18446744073709551615 0 (omega arith))
    ∙ eq-eqb (bit_at 18446744073709551615 (k % 64)) 1 (bit_at_ones 64 (k % 64) (omega arith))

pub bits_below_none : (words : List ℕ) → bits_below words 0 ≡ 0
unfolding bits_below
bits_below_none words = refl

bits_below_suc : (words : List ℕ) (n : ℕ) → bits_below words (suc n) ≡ bits_below words n + bit_at (get_or words (n / 64) 0) (n % 64)
unfolding bits_below
bits_below_suc words n = refl

not_true : (b : Bool) → not b ≡ true → b ≡ false
not_true true h = absurd (true≢false (sym h))
not_true false h = refl

-- the members of a stretch, by those below its ends
size-within_parts : (s : IntSet) (low high : ℤ) → low ≤ℤ high → size (within s low high) + size (below s low) ≡ size (below s (high +ℤ pos 1))
unfolding within
size-within_parts s low high h =
    let all = below s (high +ℤ pos 1) in
    let inner : set.retain all (λ (w : ℤ). int_lt w low) ≡ below s low = same_by_members _ _
    (λ x m. let r = retained all (λ (w : ℤ). int_lt w low) x m in in_below s low x (of_below s (high +ℤ pos 1) x r.0).0 (lt_of x low r.1))
    (λ x m. let r = of_below s low x m in contains_retained all (λ (w : ℤ). int_lt w low) x (in_below s (high +ℤ pos 1) x r.0 (further x r.1)) (test_of x low r.1)) in
    let outer : set.retain all (λ (w : ℤ). not (int_lt w low)) ≡ set.retain s (λ (w : ℤ). int_le low w && int_le w high) = same_by_members _ _
    (λ x m.
    let r = retained all (λ (w : ℤ). not (int_lt w low)) x m in
    let b = of_below s (high +ℤ pos 1) x r.0 in
    contains_retained s (λ (w : ℤ). int_le low w && int_le w high) x b.0 (between x b.1 r.1))
    (λ x m.
    let r = retained s (λ (w : ℤ). int_le low w && int_le w high) x m in
    contains_retained all (λ (w : ℤ). not (int_lt w low)) x (in_below s (high +ℤ pos 1) x r.0 (up_to x r.1)) (not_under x r.1)) in
    omega (arith, size-retain_parts (λ (w : ℤ). int_lt w low) all, ap size inner, ap size outer)
  where
    lt_of : (x v : ℤ) → int_lt x v ≡ true → x <ℤ v
    lt_of x v e = omega (arith, ints)

    test_of : (x v : ℤ) → x <ℤ v → int_lt x v ≡ true
    test_of x v e = grind (arith, ints)

    further : (x : ℤ) → x <ℤ low → x <ℤ (high +ℤ pos 1)
    further x l = omega (arith, ints)

    between : (x : ℤ) → x <ℤ (high +ℤ pos 1) → not (int_lt x low) ≡ true → (int_le low x && int_le x high) ≡ true
    between x l e = grind (arith, ints)

    up_to : (x : ℤ) → (int_le low x && int_le x high) ≡ true → x <ℤ (high +ℤ pos 1)
    up_to x e = grind (arith, ints)

    not_under : (x : ℤ) → (int_le low x && int_le x high) ≡ true → not (int_lt x low) ≡ true
    not_under x e = grind (arith, ints)

-- the number at a place, as the code computes it
pub number_at : (first : ℤ) (k : ℕ) → CanBeFirst first → k < 16384 → to_z w64 (of_z w64 (to_z w64 (of_z w64 first) +ℤ to_z w64 k)) ≡ first +ℤ pos k
number_at first k can h = rw (real first can) (computed first k can h) where
  computed : (first : ℤ) (k : ℕ) → CanBeFirst first → k < 16384 → to_z w64 (of_z w64 (first +ℤ to_z w64 k)) ≡ first +ℤ pos k
  computed first k can h = grind (arith, ints, can.before, can.behind)

-- ---- membership

module _ (first : ℤ) (words : List ℕ) (s : IntSet) (is : members first words ≡ s) where
  contains-members : (v : ℤ) → contains s v ≡ ((int_le first v && int_lt v (first +ℤ pos (places words))) && has_bit words (natural_part (v -ℤ first)))
  unfolding members
  contains-members v =
      ap (λ (t : IntSet). contains t v) (sym is)
      ∙ contains-retain (numbers_from first (places words)) (λ (w : ℤ). has_bit words (natural_part (w -ℤ first))) v
      ∙ ap (λ (b : Bool). b && has_bit words (natural_part (v -ℤ first))) (contains-numbers_from first (places words) v)

  pub bit_of : (k : ℕ) → k < places words → contains s (first +ℤ pos k) ≡ has_bit words k
  bit_of k h =
      contains-members (first +ℤ pos k)
      ∙ ap₂ (λ (a b : Bool). (a && b) && has_bit words (natural_part (first +ℤ pos k -ℤ first))) (from_first first k) (before_end first k (places words) h)
      ∙ ap (λ (n : ℕ). has_bit words n) (place_of_sum first k)

  -- a member and its place
  pub place_of : (v : ℤ) → contains s v ≡ true → (k : ℕ) × (v ≡ first +ℤ pos k) × (k < places words) × (has_bit words k ≡ true)
  place_of v h =
      let outer = and_parts (int_le first v && int_lt v (first +ℤ pos (places words))) (has_bit words (natural_part (v -ℤ first))) (sym (contains-members v) ∙ h) in
      let inner = and_parts (int_le first v) (int_lt v (first +ℤ pos (places words))) outer.0 in
      (natural_part (v -ℤ first), place_of_number first v (le_of first v inner.0), in_span first v (places words) inner.0 inner.1, outer.1)

  pub none_before : (v : ℤ) → v <ℤ first → contains s v ≡ false
  none_before v h = elim (cases_Bool (contains s v)) [
    | inr e ↦ e
    | inl e ↦ let p = place_of v e in absurd (crossed v p.0 h p.1)
  ] where
    crossed : (v : ℤ) (k : ℕ) → v <ℤ first → v ≡ first +ℤ pos k → ⊥
    crossed v k h e = omega (arith, ints)

  -- a number from the first one on, by its place
  pub bit_from : (v : ℤ) (place : ℕ) → first ≤ℤ v → place ≡ place_from first (places words) v → place < places words → contains s v ≡ has_bit words place
  bit_from v place h e l =
      let at : v ≡ first +ℤ pos place = here v place h e l in
      ap (λ (w : ℤ). contains s w) at ∙ bit_of place l
    where
      here : (v : ℤ) (place : ℕ) → first ≤ℤ v → place ≡ place_from first (places words) v → place < places words → v ≡ first +ℤ pos place
      here v place h e l = grind (arith, ints)

  pub none_behind : (v : ℤ) (place : ℕ) → place ≡ place_from first (places words) v → places words ≤ place → contains s v ≡ false
  none_behind v place e h = elim (cases_Bool (contains s v)) [
    | inr e ↦ e
    | inl there ↦
        let p = place_of v there in
        absurd (crossed p.0 p.2 (place_high first v (places words) p.0 (reached p.0 p.1)))
  ] where
    reached : (k : ℕ) → v ≡ first +ℤ pos k → v ≤ℤ (first +ℤ pos k)
    reached k e = omega (arith, ints)

    crossed : (k : ℕ) → k < places words → place_from first (places words) v ≤ k → ⊥
    crossed k l m = omega arith

  pub next_found : (bound : ℤ) (p : ℕ) → IsNextBit words (place_from first (places words) bound) p → IsNextFrom s bound (first +ℤ pos p)
  next_found bound p next = record {
    member = bit_of p next.in_words ∙ next.set;
    from_bound = place_low first bound (places words) p next.from_there next.in_words;
    first = λ other there from.
        let k = place_of other there in
        let low = place_high first bound (places words) k.0 (reached other k.0 k.1 from) in
        elim (cases_lt k.0 p) [
          | inl lt ↦ absurd (true≢false (sym k.3 ∙ next.first k.0 low lt))
          | inr ge ↦ ordered other k.0 k.1 ge
        ];
  } where
    reached : (other : ℤ) (k : ℕ) → other ≡ first +ℤ pos k → bound ≤ℤ other → bound ≤ℤ (first +ℤ pos k)
    reached other k e h = omega (arith, ints)

    ordered : (other : ℤ) (k : ℕ) → other ≡ first +ℤ pos k → p ≤ k → (first +ℤ pos p) ≤ℤ other
    ordered other k e h = omega (arith, ints)

  pub next_none : (bound : ℤ) → NoBitFrom words (place_from first (places words) bound) → NoneFrom s bound
  next_none bound none other there =
      let k = place_of other there in
      elim (cases_lt k.0 (place_from first (places words) bound)) [
        | inl lt ↦ lower other k.0 k.1 lt
        | inr ge ↦ absurd (true≢false (sym k.3 ∙ none k.0 ge k.2))
      ]
    where
      lower : (other : ℤ) (k : ℕ) → other ≡ first +ℤ pos k → k < place_from first (places words) bound → other <ℤ bound
      lower other k e h = grind (arith, ints)

  pub last_found : (bound : ℤ) (p : ℕ) → IsLastBit words (place_from first (places words) (bound +ℤ pos 1)) p → IsLastUpTo s bound (first +ℤ pos p)
  last_found bound p found = record {
    member = bit_of p (inside found.below) ∙ found.set;
    up_to_bound = reached found.below;
    last = λ other there upto.
        let k = place_of other there in
        elim (cases_lt p k.0) [
          | inl lt ↦ absurd (true≢false (sym k.3 ∙ found.last k.0 lt (below other k.0 k.1 k.2 upto)))
          | inr ge ↦ ordered other k.0 k.1 ge
        ];
  } where
    inside : p < place_from first (places words) (bound +ℤ pos 1) → p < places words
    inside h = omega (arith, place_few first (bound +ℤ pos 1) (places words))

    reached : p < place_from first (places words) (bound +ℤ pos 1) → (first +ℤ pos p) ≤ℤ bound
    reached h = grind (arith, ints)

    below : (other : ℤ) (k : ℕ) → other ≡ first +ℤ pos k → k < places words → other ≤ℤ bound → k < place_from first (places words) (bound +ℤ pos 1)
    below other k e l h = grind (arith, ints)

    ordered : (other : ℤ) (k : ℕ) → other ≡ first +ℤ pos k → k ≤ p → other ≤ℤ (first +ℤ pos p)
    ordered other k e h = omega (arith, ints)

  pub last_none : (bound : ℤ) → NoBitBelow words (place_from first (places words) (bound +ℤ pos 1)) → NoneUpTo s bound
  last_none bound none other there =
      let k = place_of other there in
      elim (cases_lt k.0 (place_from first (places words) (bound +ℤ pos 1))) [
        | inl lt ↦ absurd (true≢false (sym k.3 ∙ none k.0 lt))
        | inr ge ↦ higher other k.0 k.1 k.2 ge
      ]
    where
      higher : (other : ℤ) (k : ℕ) → other ≡ first +ℤ pos k → k < places words → place_from first (places words) (bound +ℤ pos 1) ≤ k → bound <ℤ other
      higher other k e l h = grind (arith, ints)

-- ---- counts

bit_is_one : (words : List ℕ) (n : ℕ) → has_bit words n ≡ true → bit_at (get_or words (n / 64) 0) (n % 64) ≡ 1
unfolding has_bit
bit_is_one words n h = grind (arith, nat_tests)

bit_is_zero : (words : List ℕ) (n : ℕ) → has_bit words n ≡ false → bit_at (get_or words (n / 64) 0) (n % 64) ≡ 0
unfolding has_bit
bit_is_zero words n h =
    let small = bit_at-lt (get_or words (n / 64) 0) (n % 64) in
    grind (arith, nat_tests)

module _ (first : ℤ) (words : List ℕ) (s : IntSet) (is : members first words ≡ s) where
  size-below_first : size (below s first) ≡ 0
  size-below_first = ap size (same_by_members (below s first) no_values
      (λ x h. let r = of_below s first x h in absurd (true≢false (sym r.0 ∙ none_before first words s is x r.1)))
      (λ x h. absurd (true≢false (sym h ∙ contains-no_values x)))) ∙ size-no_values

  next_number : (n : ℕ) → first +ℤ pos (suc n) ≡ first +ℤ pos n +ℤ pos 1
  next_number n = omega (arith, ints)

  size-below_place : (n : ℕ) → n ≤ places words → size (below s (first +ℤ pos n)) ≡ bits_below words n
  size-below_place zero h =
      let same : first +ℤ pos 0 ≡ first = omega (arith, ints) in
      omega (arith, ap (λ (v : ℤ). size (below s v)) same, size-below_first, bits_below_none words)
  size-below_place (suc n) h =
      let before = size-below_place n (omega arith) in
      let next = ap (λ (v : ℤ). size (below s v)) (next_number n) ∙ ap size (below_next s (first +ℤ pos n)) in
      let more = bits_below_suc words n in
      let here = bit_of first words s is n (omega arith) in
      elim (cases_Bool (has_bit words n)) [
        | inl e ↦ omega (arith, next, before, more, upto_member s (first +ℤ pos n) (here ∙ e), bit_is_one words n e)
        | inr e ↦ omega (arith, next, before, more, ap size (upto_other s (first +ℤ pos n) (here ∙ e)), bit_is_zero words n e)
      ]

  size-below : (v : ℤ) → size (below s v) ≡ bits_below words (place_from first (places words) v)
  size-below v =
      ap size (same_by_members (below s v) (below s (first +ℤ pos (place_from first (places words) v)))
      (λ x h.
      let r = of_below s v x h in
      let k = place_of first words s is x r.0 in
      in_below s _ x r.0 (up x k.0 k.1 k.2 r.1))
      (λ x h.
      let r = of_below s _ x h in
      let k = place_of first words s is x r.0 in
      in_below s v x r.0 (down x k.0 k.1 r.1)))
      ∙ size-below_place (place_from first (places words) v) (place_few first v (places words))
    where
      up : (x : ℤ) (k : ℕ) → x ≡ first +ℤ pos k → k < places words → x <ℤ v → x <ℤ (first +ℤ pos (place_from first (places words) v))
      up x k e l h = grind (arith, ints)

      down : (x : ℤ) (k : ℕ) → x ≡ first +ℤ pos k → x <ℤ (first +ℤ pos (place_from first (places words) v)) → x <ℤ v
      down x k e h = grind (arith, ints)

  pub size-within : (low high : ℤ) → low ≤ℤ high → size (within s low high) + bits_below words (place_from first (places words) low) ≡ bits_below words (place_from first (places words) (high +ℤ pos 1))
  size-within low high h = omega (arith, size-within_parts s low high h, size-below low, size-below (high +ℤ pos 1))

-- ---- one number is written

module _ (first : ℤ) (words new : List ℕ) (s : IntSet) (is : members first words ≡ s) (v : ℤ) (place : ℕ) (at : v ≡ first +ℤ pos place) (inside : place < places words) where
  other_number : (x : ℤ) (k : ℕ) → x ≡ first +ℤ pos k → k ≢ place → int_eq x v ≡ false
  other_number x k e apart = elim (cases_Bool (int_eq x v)) [
    | inr f ↦ f
    | inl f ↦ absurd (apart (same_place k (sym e ∙ (Decides-int_eq x v).0 f ∙ at)))
  ] where
    same_place : (k : ℕ) → first +ℤ pos k ≡ first +ℤ pos place → k ≡ place
    same_place k e = omega (arith, ints)

  other_place : (x : ℤ) (k : ℕ) → x ≡ first +ℤ pos k → int_eq x v ≡ false → k ≢ place
  other_place x k e f same = true≢false (sym ((Decides-int_eq x v).1 (e ∙ ap (λ (n : ℕ). first +ℤ pos n) same ∙ sym at)) ∙ f)

  pub members-cleared : IsWritten words new place false → members first new ≡ set.remove s v
  members-cleared written =
      let count : places new ≡ places words = ap (λ (n : ℕ). n * 64) written.same_length in
      same_by_members (members first new) (set.remove s v)
      (λ x h.
      let k = place_of first new (members first new) refl x h in
      let apart : k.0 ≢ place = λ e. true≢false (sym k.3 ∙ ap (λ (n : ℕ). has_bit new n) e ∙ written.here) in
      let there : contains s x ≡ true = ap (λ (w : ℤ). contains s w) k.1 ∙ bit_of first words s is k.0 (omega (arith, k.2)) ∙ sym (written.elsewhere k.0 apart) ∙ k.3 in
      contains-remove s v x ∙ ap₂ (λ (a b : Bool). not a && b) (other_number x k.0 k.1 apart) there)
      (λ x h.
      let r = and_parts (not (int_eq x v)) (contains s x) (sym (contains-remove s v x) ∙ h) in
      let k = place_of first words s is x r.1 in
      let apart : k.0 ≢ place = other_place x k.0 k.1 (not_true (int_eq x v) r.0) in
      ap (λ (w : ℤ). contains (members first new) w) k.1 ∙ bit_of first new (members first new) refl k.0 (omega (arith, k.2)) ∙ written.elsewhere k.0 apart ∙ k.3)

  pub members-set : IsWritten words new place true → members first new ≡ set.insert s v
  members-set written =
      let count : places new ≡ places words = ap (λ (n : ℕ). n * 64) written.same_length in
      same_by_members (members first new) (set.insert s v)
      (λ x h.
      let k = place_of first new (members first new) refl x h in
      elim (cases_eq k.0 place) [
        | inl e ↦
            let same : x ≡ v = k.1 ∙ ap (λ (n : ℕ). first +ℤ pos n) e ∙ sym at in
            contains-insert s v x ∙ ap (λ (b : Bool). b || contains s x) ((Decides-int_eq x v).1 same)
        | inr apart ↦
            let there : contains s x ≡ true = ap (λ (w : ℤ). contains s w) k.1 ∙ bit_of first words s is k.0 (omega (arith, k.2)) ∙ sym (written.elsewhere k.0 apart) ∙ k.3 in
            contains-insert s v x ∙ or_right (int_eq x v) (contains s x) there
      ])
      (λ x h. elim (cases_Bool (int_eq x v)) [
        | inl e ↦
            ap (λ (w : ℤ). contains (members first new) w) ((Decides-int_eq x v).0 e ∙ at) ∙ bit_of first new (members first new) refl place (omega arith) ∙ written.here
        | inr e ↦
            let there : contains s x ≡ true = sym (ap (λ (b : Bool). b || contains s x) e) ∙ sym (contains-insert s v x) ∙ h in
            let k = place_of first words s is x there in
            let apart : k.0 ≢ place = other_place x k.0 k.1 e in
            ap (λ (w : ℤ). contains (members first new) w) k.1 ∙ bit_of first new (members first new) refl k.0 (omega (arith, k.2)) ∙ written.elsewhere k.0 apart ∙ k.3
      ])

-- ---- all and none

pub members-none : (first : ℤ) (n : ℕ) → members first (replicate n 0) ≡ no_values
members-none first n = same_by_members (members first (replicate n 0)) no_values
    (λ x h. let k = place_of first (replicate n 0) (members first (replicate n 0)) refl x h in absurd (true≢false (sym k.3 ∙ no_bit n k.0)))
    (λ x h. absurd (true≢false (sym h ∙ contains-no_values x)))

full_has : (first v : ℤ) (n : ℕ) → first ≤ℤ v → v <ℤ (first +ℤ pos (n * 64)) → contains (members first (replicate n 18446744073709551615)) v ≡ true
full_has first v n h l =
    let k = natural_part (v -ℤ first) in
    let at : v ≡ first +ℤ pos k = place_of_number first v h in
    let inside : k < n * 64 = in_width first v (n * 64) h l in
    let ones : ℕ = 18446744073709551615 in
    let count : length (replicate n ones) ≡ n = length-replicate n ones in
    ap (λ (w : ℤ). contains (members first (replicate n 18446744073709551615)) w) at
    ∙ bit_of first (replicate n 18446744073709551615) (members first (replicate n 18446744073709551615)) refl k (omega arith)
    ∙ each_bit n k inside
  where
    in_width : (first v : ℤ) (n : ℕ) → first ≤ℤ v → v <ℤ (first +ℤ pos n) → natural_part (v -ℤ first) < n
    in_width first v n h l = grind (arith, ints)

pub members-full : (first : ℤ) (n : ℕ) → members first (replicate n 18446744073709551615) ≡ numbers_from first (n * 64)
unfolding members
members-full first n =
    let ones : ℕ = 18446744073709551615 in
    let count : places (replicate n ones) ≡ n * 64 = ap (λ (k : ℕ). k * 64) (length-replicate n ones) in
    same_by_members (members first (replicate n 18446744073709551615)) (numbers_from first (n * 64))
    (λ x h.
    let r = retained (numbers_from first (places (replicate n ones))) (λ (v : ℤ). has_bit (replicate n ones) (natural_part (v -ℤ first))) x h in
    ap (λ (k : ℕ). contains (numbers_from first k) x) (sym count) ∙ r.0)
    (λ x h.
    let r = and_parts (int_le first x) (int_lt x (first +ℤ pos (n * 64))) (sym (contains-numbers_from first (n * 64) x) ∙ h) in
    full_has first x n (test_le first x r.0) (test_lt x (first +ℤ pos (n * 64)) r.1))

-- the numbers from one to another are among those that whole words have
pub in_whole_words : (low high v : ℤ) → low ≤ℤ v → v ≤ℤ high → contains (numbers_from low (whole_words (width low high))) v ≡ true
in_whole_words low high v h l = in_numbers_from low v (whole_words (width low high)) h (inside low high v h l) where
  inside : (low high v : ℤ) → low ≤ℤ v → v ≤ℤ high → v <ℤ (low +ℤ pos (whole_words (width low high)))
  inside low high v h l = grind (arith, ints)

-- ---- a member's place

module _ (first : ℤ) (words : List ℕ) (s : IntSet) (is : members first words ≡ s) (v : ℤ) (there : contains s v ≡ true) where
  pub from_the_first : first ≤ℤ v
  from_the_first = let k = place_of first words s is v there in reached k.0 k.1 where
    reached : (k : ℕ) → v ≡ first +ℤ pos k → first ≤ℤ v
    reached k e = omega (arith, ints)

  pub near_first : length words ≤ 256 → v <ℤ (first +ℤ pos 16384)
  near_first few = let k = place_of first words s is v there in near k.0 k.1 k.2 where
    near : (k : ℕ) → v ≡ first +ℤ pos k → k < places words → v <ℤ (first +ℤ pos 16384)
    near k e h = omega (arith, ints)

  pub place_within : (place : ℕ) → v ≡ first +ℤ pos place → place < places words
  place_within place at = let k = place_of first words s is v there in same k.0 k.1 k.2 where
    same : (k : ℕ) → v ≡ first +ℤ pos k → k < places words → place < places words
    same k e h = omega (arith, ints)

pub up_to_end : (v high end : ℤ) → v ≤ℤ high → high <ℤ end → v <ℤ end
up_to_end v high end h l = omega (arith, ints)

pub place_near : (low high v : ℤ) (place n : ℕ) → v ≡ low +ℤ pos place → v ≤ℤ high → high <ℤ (low +ℤ pos n) → place < n
place_near low high v place n e h l = omega (arith, ints)

pub fits_between : (low high v : ℤ) → FitsSigned w64 low → FitsSigned w64 high → low ≤ℤ v → v ≤ℤ high → FitsSigned w64 v
fits_between low high v a b h l = omega (arith, ints, a, b)

pub same_count : (n word : ℕ) → length (replicate n word) ≡ n
same_count n word = length-replicate n word

-- ---- runs

module _ (first : ℤ) (words : List ℕ) (s : IntSet) (is : members first words ≡ s) (from p : ℕ) (gap : IsGap words from p) (start : from < p) where
  pub run_found : IsRunEnd s (first +ℤ pos from) (first +ℤ pos p -ℤ pos 1)
  run_found = record {
    in_order = ordered start;
    members = λ v h l.
        let k = natural_part (v -ℤ first) in
        let at : v ≡ first +ℤ pos k = place_of_number first v (low v h) in
        let above : from ≤ k = above_from v k at h in
        let below : k < p = below_gap v k at l in
        ap (λ (w : ℤ). contains s w) at ∙ bit_of first words s is k (omega (arith, gap.in_words)) ∙ gap.run k above below;
    behind = ap (λ (w : ℤ). contains s w) (next p) ∙ (elim (cases_lt p (places words)) [
      | inl lt ↦ bit_of first words s is p lt ∙ gap.unset lt
      | inr ge ↦ none_behind first words s is (first +ℤ pos p) (place_from first (places words) (first +ℤ pos p)) refl (reached p ge)
    ]);
  } where
    ordered : from < p → (first +ℤ pos from) ≤ℤ (first +ℤ pos p -ℤ pos 1)
    ordered h = omega (arith, ints)

    low : (v : ℤ) → (first +ℤ pos from) ≤ℤ v → first ≤ℤ v
    low v h = omega (arith, ints)

    above_from : (v : ℤ) (k : ℕ) → v ≡ first +ℤ pos k → (first +ℤ pos from) ≤ℤ v → from ≤ k
    above_from v k e h = omega (arith, ints)

    below_gap : (v : ℤ) (k : ℕ) → v ≡ first +ℤ pos k → v ≤ℤ (first +ℤ pos p -ℤ pos 1) → k < p
    below_gap v k e h = omega (arith, ints)

    next : (p : ℕ) → first +ℤ pos p -ℤ pos 1 +ℤ pos 1 ≡ first +ℤ pos p
    next p = omega (arith, ints)

    reached : (p : ℕ) → places words ≤ p → places words ≤ place_from first (places words) (first +ℤ pos p)
    reached p h = grind (arith, ints)

pub gap_behind : (words : List ℕ) (from p : ℕ) → IsGap words from p → from < places words → has_bit words from ≡ true → from < p
gap_behind words from p gap inside on = elim (cases_lt from p) [
  | inl lt ↦ lt
  | inr ge ↦
      let same : p ≡ from = omega (arith, gap.from_there) in
      absurd (true≢false (sym on ∙ ap (λ (k : ℕ). has_bit words k) (sym same) ∙ gap.unset (omega arith)))
]

pub end_at : (first : ℤ) (k : ℕ) → CanBeFirst first → k ≤ 16384 → to_z w64 (of_z w64 (to_z w64 (of_z w64 (to_z w64 (of_z w64 first) +ℤ to_z w64 k)) -ℤ pos 1)) ≡ first +ℤ pos k -ℤ pos 1
end_at first k can h = rw (real first can) (computed first k can h) where
  sum : (first : ℤ) (k : ℕ) → CanBeFirst first → k ≤ 16384 → to_z w64 (of_z w64 (first +ℤ to_z w64 k)) ≡ first +ℤ pos k
  sum first k can h = grind (arith, ints, can.before, can.behind)

  less : (first : ℤ) (k : ℕ) → CanBeFirst first → k ≤ 16384 → to_z w64 (of_z w64 (first +ℤ pos k -ℤ pos 1)) ≡ first +ℤ pos k -ℤ pos 1
  less first k can h = grind (arith, ints, can.before, can.behind)

  computed : (first : ℤ) (k : ℕ) → CanBeFirst first → k ≤ 16384 → to_z w64 (of_z w64 (to_z w64 (of_z w64 (first +ℤ to_z w64 k)) -ℤ pos 1)) ≡ first +ℤ pos k -ℤ pos 1
  computed first k can h = ap (λ (v : ℤ). to_z w64 (of_z w64 (v -ℤ pos 1))) (sum first k can h) ∙ less first k can h
