-- Weights that are moved, one more at a time.
use Rattle.std.proofs.Common.{◌≡◌, ℕ, zero, suc, ◌+◌, ◌<◌, ◌≤◌, Bool, true, false, cond, ◌&&◌, nat_le, List, [], ◌∷◌, ◌++◌, length, get_or, refl, sym, ap, ◌∙◌, arith, ℤ, pos, ◌+ℤ◌, unsigned_abs, Option, None}
use Rattle.std.specs.List.{list_all}
use Rattle.std.proofs.Math.Numerals.{add-one}
use Rattle.std.proofs.lemmas.Int.{ints}
use Rattle.std.proofs.lemmas.Bool.Decides.{nat_tests}
use Rattle.std.proofs.lemmas.Bool.{and_parts}
use Rattle.fzn_domain.specs.IntSet.{IntSet, contains, size, least}
use Rattle.fzn_domain.specs.Limits.{IsInLimits, IsLimited}
use Rattle.fzn_domain.proofs.SetLemmas.{contains-least, member_of_size}
use Rattle.fzn_meaning.specs.declared.row.Listed.{Listed}
use Rattle.fzn_meaning.specs.declared.row.VariablePart.{VariablePart}
use Rattle.fzn_meaning.specs.Separable.{listed_at, weight_at}
use Rattle.fzn_weights.specs.Limits.{is_entry_within}
use Rattle.fzn_weights.specs.Weights.{both_weights}
use Rattle.fzn_weights.specs.Moves.{weight_within, weight_where, moved_from, span, is_narrow}
use Rattle.fzn_weights.proofs.InverseLemmas.{one_on, none_on}

module _ (more : ℤ → Option ℤ) (old : Option Listed) where
  abbrev pub Moved : ℤ → Option ℤ
  Moved at = both_weights (listed_at old at) (more at)

  pub length-moved : (low : ℤ) (count : ℕ) → length (moved_from more low count old) ≡ count
  length-moved low zero = refl
  length-moved low (suc count) = ap (λ (n : ℕ). suc n) (length-moved (low +ℤ pos 1) count)

  pub moved-at : (low : ℤ) (count k : ℕ) → k < count → get_or (moved_from more low count old) k None ≡ Moved (low +ℤ pos k)
  moved-at low zero k inside = absurd (omega arith)
  moved-at low (suc count) zero inside = ap Moved (sym (none_on low))
  moved-at low (suc count) (suc k) inside = moved-at (low +ℤ pos 1) count k (omega arith) ∙ ap Moved (one_on low k)

  moved-push : (low : ℤ) (count : ℕ) → moved_from more low (suc count) old ≡ moved_from more low count old ++ Moved (low +ℤ pos count) ∷ []
  moved-push low zero = ap (λ (v : ℤ). Moved v ∷ []) (sym (none_on low))
  moved-push low (suc count) =
      ap (λ (es : List (Option ℤ)). Moved low ∷ es) (moved-push (low +ℤ pos 1) count
      ∙ ap (λ (v : ℤ). moved_from more (low +ℤ pos 1) count old ++ Moved v ∷ []) (one_on low count))

  pub moved-more : (low : ℤ) (count : ℕ) (at : ℤ) (entry : Option ℤ) → at ≡ low +ℤ pos count → entry ≡ Moved at → moved_from more low (count + 1) old ≡ moved_from more low count old ++ entry ∷ []
  moved-more low count at entry at_is is =
      ap (λ (n : ℕ). moved_from more low n old) (add-one count) ∙ moved-push low count
      ∙ ap (λ (v : ℤ). moved_from more low count old ++ Moved v ∷ []) (sym at_is)
      ∙ ap (λ (e : Option ℤ). moved_from more low count old ++ e ∷ []) (sym is)

-- the same, by other names
pub moved-same : (set set' : IntSet) (part part' : VariablePart) (decided : ℤ → Option ℤ) (low low' : ℤ) (count count' : ℕ) (old old' : Option Listed) → set ≡ set' → part ≡ part' → low ≡ low' → count ≡ count' → old ≡ old'
    → moved_from (weight_where set part decided) low count old ≡ moved_from (weight_where set' part' decided) low' count' old'
moved-same set set' part part' decided low low' count count' old old' p q r s t = rw (p, q, r, s, t) refl

pub moved-alike : (more more' : ℤ → Option ℤ) (old : Option Listed) → ((value : ℤ) → more value ≡ more' value) → (low : ℤ) (count : ℕ) → moved_from more low count old ≡ moved_from more' low count old
moved-alike more more' old each low zero = refl
moved-alike more more' old each low (suc count) =
    ap (λ (w : Option ℤ). both_weights (listed_at old low) w ∷ moved_from more (low +ℤ pos 1) count old) (each low)
    ∙ ap (λ (es : List (Option ℤ)). both_weights (listed_at old low) (more' low) ∷ es) (moved-alike more more' old each (low +ℤ pos 1) count)

-- ---- sets

le_test : (m n : ℕ) → m ≤ n → nat_le m n ≡ true
le_test m n h = grind (arith, nat_tests)

pub limits-small : (v : ℤ) → IsInLimits v → unsigned_abs v ≤ 1000000000
limits-small v within = let low = within.0 in let high = within.1 in grind (arith, ints)

module _ (set : IntSet) where
  pub narrow-few : is_narrow set ≡ true → span set ≤ 65536
  narrow-few narrow = few (span set) (and_parts (nat_le 1 (size set) && nat_le (unsigned_abs (least set)) 1000000000) (nat_le (span set) 65536) narrow).1
    where
      few : (n : ℕ) → nat_le n 65536 ≡ true → n ≤ 65536
      few n h = grind (arith, nat_tests)

  -- a declared set has its least value within the limits
  pub narrow-test : IsLimited set → (size set ≡ 0 → ⊥) → is_narrow set ≡ nat_le (span set) 65536
  narrow-test limited some =
      let count : 0 < size set = above (size set) some in
      let member = member_of_size set count in
      let low = limits-small (least set) (limited (least set) (contains-least set member.0 member.1)) in
      ap (λ (b : Bool). (b && nat_le (unsigned_abs (least set)) 1000000000) && nat_le (span set) 65536) (le_test 1 (size set) count) ∙ ap (λ (b : Bool). b && nat_le (span set) 65536) (le_test (unsigned_abs (least set)) 1000000000 low)
    where
      above : (n : ℕ) → (n ≡ 0 → ⊥) → 0 < n
      above zero h = absurd (h refl)
      above (suc n) h = omega arith

  module _ (part : VariablePart) (number : ℤ) where
    pub weight-inside : contains set number ≡ true → weight_within set part number ≡ weight_at part number
    weight-inside inside = ap (λ (b : Bool). cond b (weight_at part number) None) inside

    pub weight-outside : (contains set number ≡ true → ⊥) → None ≡ weight_within set part number
    weight-outside outside = sym (ap (λ (b : Bool). cond b (weight_at part number) None) (not_so (contains set number) outside))
      where
        not_so : (b : Bool) → (b ≡ true → ⊥) → b ≡ false
        not_so true h = absurd (h refl)
        not_so false h = refl

-- ---- entries that are within the limits

pub within-push : (entries : List (Option ℤ)) (entry : Option ℤ) → list_all is_entry_within entries ≡ true → is_entry_within entry ≡ true → list_all is_entry_within (entries ++ entry ∷ []) ≡ true
within-push [] entry all here = both (is_entry_within entry) true here refl
  where
    both : (a b : Bool) → a ≡ true → b ≡ true → (a && b) ≡ true
    both a b p q = rw (p, q) refl
within-push (e ∷ entries) entry all here = step (is_entry_within e) (list_all is_entry_within entries) (list_all is_entry_within (entries ++ entry ∷ [])) all (λ rest. within-push entries entry rest here)
  where
    step : (a b c : Bool) → (a && b) ≡ true → (b ≡ true → c ≡ true) → (a && c) ≡ true
    step true true c h f = f refl
    step true false c h f = absurd (cc)
    step false b c h f = absurd (cc)

pub within-fails : (entries : List (Option ℤ)) (k : ℕ) → k < length entries → is_entry_within (get_or entries k None) ≡ false → list_all is_entry_within entries ≡ false
within-fails [] k inside fails = absurd (omega arith)
within-fails (e ∷ entries) zero inside fails = left (is_entry_within e) (list_all is_entry_within entries) fails
  where
    left : (a b : Bool) → a ≡ false → (a && b) ≡ false
    left a b p = rw p refl
within-fails (e ∷ entries) (suc k) inside fails = right (is_entry_within e) (list_all is_entry_within entries) (within-fails entries k (omega arith) fails)
  where
    right : (a b : Bool) → b ≡ false → (a && b) ≡ false
    right true b p = p
    right false b p = refl
