-- The clauses of a table.
use Rattle.std.proofs.Common.{◌≡◌, ◌≢◌, ◌↔◌, ℕ, ◌+◌, ◌*◌, ◌/◌, ◌<◌, ◌≤◌, rules, true, false, ◌||◌, IsTrue, List, [], ◌∷◌, length, below_more, refl, sym, ap, subst, ◌∙◌, inl, inr, arith, ℤ, pos, ◌-ℤ◌, ◌<ℤ◌, int_cmp, int_lt, to_z, of_z, w64}
use Rattle.std.specs.FinSet as set
use Rattle.std.specs.List.{list_any}
use Rattle.std.specs.Ordering.{int_eq, eq_by_cmp}
use Rattle.std.proofs.lemmas.Int.{ints}
use Rattle.std.proofs.lemmas.Bool.{cases_Bool, cases_lt, true≢false}
use Rattle.std.proofs.lemmas.Bool.Decides.{Decides-int_eq}
use Rattle.std.proofs.lemmas.List.{length-map}
use Rattle.fzn_domain.specs.declared.literal.Lit.{Lit}
use Rattle.fzn_domain.specs.declared.literal.Op.{Op}
use Rattle.fzn_domain.specs.IntSet.{IntSet, size, no_values, least, greatest, least_in, greatest_in}
use Rattle.fzn_domain.specs.Limits.{IsInLimits, IsNearLimits}
use Rattle.fzn_domain.specs.Literal.{compares}
use Rattle.fzn_domain.specs.Narrow.{denied}
use Rattle.fzn_domain.proofs.SetLemmas.{contains-no_values}
use Rattle.fzn_values.specs.declared.term.Term.{Term}
use Rattle.fzn_values.specs.Term.{number_in}
use Rattle.fzn_rules.specs.GlobalRows.{IsRowOut}
use Rattle.fzn_trail.specs.Levels.{Levels}
use Rattle.fzn_propagator.specs.Clause.{IsJustifiedBy, Says, Keeps}
use Rattle.fzn_propagator.proofs.CallerLemmas.{left_denied}
use Rattle.fzn_terms.specs.Values.{place_at}
use Rattle.fzn_terms.specs.Denied.{that, IsClaimForced}
use Rattle.fzn_table.specs.declared.pass.Pass.{Pass}
use Rattle.fzn_table.specs.Passes.{IsRowOfTable}
use Rattle.fzn_table.specs.Supports.{AreRowsOutOn, number_at, IsWhole, AreMatchesOut}

pub unequal : (v k : ℤ) → v ≢ k → int_eq v k ≡ false
unequal v k apart = grind (arith, ints)

pub equal_test : (v : ℤ) → int_eq v v ≡ true
equal_test v = grind (arith, ints)

-- the bound of a literal, as the machine keeps it
pub real_near : (v : ℤ) → IsNearLimits v → to_z w64 (of_z w64 v) ≡ v
real_near v near = omega (arith, ints, near.0, near.1)

-- ---- spans

none_listed : (xs : List ℤ) → ((v : ℤ) → list_any (eq_by_cmp int_cmp v) xs ≡ false) → xs ≡ []
none_listed [] none = refl
none_listed (x ∷ xs) none = absurd (true≢false (sym (ap (λ b. b || list_any (eq_by_cmp int_cmp x) xs) ((Decides-int_eq x x).1 refl)) ∙ none x))

no_items : set.items no_values ≡ []
no_items = none_listed (set.items no_values) (λ v. sym (set.contains-items no_values v) ∙ contains-no_values v)

no_least : least no_values ≡ pos 0
unfolding least
no_least = ap least_in no_items

no_greatest : greatest no_values ≡ pos 0
unfolding greatest
no_greatest = ap greatest_in no_items

-- the ends of an empty set are one
pub empty_span : (s : IntSet) → size s ≡ 0 → (greatest s -ℤ least s) <ℤ pos 4096
empty_span s none = subst (λ (t : IntSet). (greatest t -ℤ least t) <ℤ pos 4096) (sym (set.empty_of_len s none)) (omega (arith, ints, no_least, no_greatest))

-- as the machine reckons it
pub span_computed : (low high : ℤ) → IsInLimits low → IsInLimits high → IsTrue (int_lt (to_z w64 (of_z w64 (high -ℤ low))) (pos 4096)) ↔ ((high -ℤ low) <ℤ pos 4096)
span_computed low high l h = (λ told. grind (arith, ints, l.0, l.1, h.0, h.1), λ told. grind (arith, ints, l.0, l.1, h.0, h.1))

-- ---- rows

pub row_below : (pass : Pass) (r : ℕ) → r < length pass.rows.now / length pass.places.now → IsRowOfTable pass r
row_below pass r below =
    let some = pass.some in
    let as_many = length-map pass.rows.now number_in in
    let fits : r * length pass.places.now + length pass.places.now ≤ length pass.rows.now = search rules in
    omega (arith, fits, as_many)

pub below_count : (pass : Pass) (r : ℕ) → IsRowOfTable pass r → r < length pass.rows.now / length pass.places.now
below_count pass r whole =
    let some = pass.some in
    let as_many = length-map pass.rows.now number_in in
    let fits : r * length pass.places.now + length pass.places.now ≤ length pass.rows.now = omega (arith, whole, as_many) in
    search rules

module _ (declared : List IntSet) (places : List Term) (rows : List ℤ) (p : ℕ) (op : Op) (bound : ℤ) (old new : List Lit) where
  -- one row more, which is out
  pub matches_out : (r : ℕ) → Says declared old (λ sets. AreMatchesOut sets places rows p op bound r) → Keeps declared old new → Says declared new (λ sets. IsRowOut sets places rows r) → Says declared new (λ sets. AreMatchesOut sets places rows p op bound (r + 1))
  matches_out r before keeps out sets left = below_more (λ (s : ℕ). compares op (number_at places rows s p) bound ≡ true → IsRowOut sets places rows s) r (before sets (keeps sets left)) (λ stands. out sets left)

  -- one row more, whose value does not stand so to the bound
  pub matches_other : (r : ℕ) → Says declared old (λ sets. AreMatchesOut sets places rows p op bound r) → compares op (number_at places rows r p) bound ≡ false → Says declared old (λ sets. AreMatchesOut sets places rows p op bound (r + 1))
  matches_other r before fails sets left = below_more (λ (s : ℕ). compares op (number_at places rows s p) bound ≡ true → IsRowOut sets places rows s) r (before sets left) (λ stands. absurd (true≢false (sym stands ∙ fails)))

module _ (places : List Term) (rows : List ℤ) (p : ℕ) (op : Op) (bound : ℤ) where
  -- up to a row before which none stands so to the bound
  pub matches_none : (sets : List IntSet) (next : ℕ) → ((r : ℕ) → r < next → compares op (number_at places rows r p) bound ≡ false) → AreMatchesOut sets places rows p op bound next
  matches_none sets next none r below stands = absurd (true≢false (sym stands ∙ none r below))

  -- up to a row between which and the last none does
  pub matches_passed : (declared : List IntSet) (clause : List Lit) (r next : ℕ) → Says declared clause (λ sets. AreMatchesOut sets places rows p op bound (r + 1)) → ((s : ℕ) → r < s → s < next → compares op (number_at places rows s p) bound ≡ false) → Says declared clause (λ sets. AreMatchesOut sets places rows p op bound next)
  matches_passed declared clause r next before between sets left s below stands = elim (cases_lt s (r + 1)) [
    | inl lt ↦ before sets left s lt stands
    | inr ge ↦ absurd (true≢false (sym stands ∙ between s (omega (arith, ge)) below))
  ]

-- the rows whose value stands so to the bound are out, and each value of the place stands so
pub claim_explained : (trail : Levels) (places : List Term) (rows : List ℤ) (p : ℕ) (op : Op) (bound : ℤ) (old new : List Lit) (count : ℕ) → p < length places → ((r : ℕ) → IsWhole places rows r → r < count) → Says trail.declared old (λ sets. AreMatchesOut sets places rows p op bound count) → IsClaimForced trail (that (place_at places p) op bound) old new → IsJustifiedBy trail (AreRowsOutOn places rows) new
claim_explained trail places rows p op bound old new count below counted out forced = record {
  forcing = forced.forcing;
  met = λ some r whole.
      let sets = denied trail.declared new in
      let left = left_denied trail.declared new forced.forcing.over some in
      elim (cases_Bool (compares op (number_at places rows r p) bound)) [
        | inl stands ↦ out sets (forced.keeps sets left) r (counted r whole) stands
        | inr fails ↦ (p, below, λ may. true≢false (sym (forced.says sets left (number_at places rows r p) may) ∙ fails))
      ];
}
