-- The literal that a variable has not a value.
use Rattle.std.proofs.Common.{◌≡◌, ◌≢◌, ◌<◌, true, false, not, refl, sym, ap, ◌∙◌, inl, inr, arith, ℤ}
use Rattle.std.specs.Ordering.{int_eq}
use Rattle.std.proofs.lemmas.Int.{ints}
use Rattle.std.proofs.lemmas.Bool.{cases_Bool}
use Rattle.fzn_domain.specs.declared.literal.Lit.{Lit}
use Rattle.fzn_domain.specs.declared.literal.Op.{Op}
use Rattle.fzn_domain.specs.declared.literal.Op.TheVariants.{NotEqual}
use Rattle.fzn_domain.specs.Literal.{compares, is_true_at, negated}
use Rattle.fzn_domain.specs.IntSet.{IntSet, contains, size, is_possible, least, greatest}
use Rattle.fzn_domain.proofs.SetLemmas.{least_le, le_greatest, possible_when, impossible_when, is_true_at-negated}
use Rattle.fzn_propagator.proofs.LeftLemmas.{one_end}

pub differs_not : (v k : ℤ) → v ≡ k → not (int_eq v k) ≡ false
differs_not v k e = grind (arith, ints)

pub same_value : (v k : ℤ) → not (int_eq v k) ≡ false → v ≡ k
same_value v k e = grind (arith, ints)

equal_of : (v k : ℤ) → int_eq v k ≡ true → v ≡ k
equal_of v k h = grind (arith, ints)

module _ (lit : Lit) (denies : lit.op ≡ NotEqual) where
  at : (v : ℤ) → is_true_at lit v ≡ not (int_eq v lit.value)
  at v = ap (λ (o : Op). compares o v lit.value) denies

  pub fails_at : (v : ℤ) → v ≡ lit.value → is_true_at lit v ≡ false
  fails_at v e = at v ∙ differs_not v lit.value e

  pub value_where_false : (v : ℤ) → is_true_at lit v ≡ false → v ≡ lit.value
  value_where_false v h = same_value v lit.value (sym (at v) ∙ h)

  -- the set has that one value
  pub denied_one : (s : IntSet) → least s ≡ greatest s → least s ≡ lit.value → is_possible s lit ≡ false
  denied_one s fixed is = impossible_when s lit (λ v h. fails_at v (only_value v h))
    where
      only_value : (v : ℤ) → contains s v ≡ true → v ≡ lit.value
      only_value v h =
          let low = least_le s v h in
          let high = le_greatest s v h in
          omega (arith, ints)

  true_at : (v : ℤ) → int_eq v lit.value ≡ false → is_true_at lit v ≡ true
  true_at v h = at v ∙ ap not h

  apart_of_equal : (v w : ℤ) → v ≡ lit.value → v ≢ w → int_eq w lit.value ≡ false
  apart_of_equal v w e apart = elim (cases_Bool (int_eq w lit.value)) [
    | inl same ↦ absurd (apart (e ∙ sym (equal_of _ _ same)))
    | inr other ↦ other
  ]

  -- the set has several values
  pub denied_some : (s : IntSet) → 0 < size s → least s ≢ greatest s → is_possible s lit ≡ true
  denied_some s filled several = elim (cases_Bool (int_eq (least s) lit.value)) [
    | inl same ↦ possible_when s lit (greatest s) (one_end s true filled) (true_at _ (apart_of_equal _ _ (equal_of _ _ same) several))
    | inr other ↦ possible_when s lit (least s) (one_end s false filled) (true_at _ other)
  ]

  -- the set has that value
  pub may_fail : (s : IntSet) → contains s lit.value ≡ true → is_possible s (negated lit) ≡ true
  may_fail s there = possible_when s (negated lit) lit.value there (is_true_at-negated lit lit.value ∙ ap not (fails_at lit.value refl))
