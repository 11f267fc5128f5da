-- What a part weighs where a claim is true of its value.
use Rattle.std.proofs.Common.{◌≡◌, true, length, sym, ap, ◌∙◌, subst, arith, ℤ, pos, ◌+ℤ◌, ◌≤ℤ◌, ◌<ℤ◌, None, Some, int_le}
use Rattle.std.proofs.lemmas.Int.{ints}
use Rattle.fzn_domain.specs.declared.literal.Op.TheVariants.{AtMost, AtLeast, Equal}
use Rattle.fzn_meaning.specs.declared.row.Listed.{Listed}
use Rattle.fzn_meaning.specs.declared.row.VariablePart.{VariablePart}
use Rattle.fzn_values.specs.declared.term.Term.TheVariants.{Variable}
use Rattle.fzn_meaning.specs.Separable.{weight_at}
use Rattle.fzn_terms.specs.declared.claim.Claim.{Claim}
use Rattle.fzn_terms.specs.Denied.{that, IsEntailed}
use Rattle.fzn_terms.proofs.OrderLemmas.{at_most, equal_of}
use Rattle.fzn_levels.proofs.CallerLemmas.{from_on, up_to, at_weight, none_some, listed_only}
use Rattle.fzn_separable.specs.Passes.{WeighsWhere}

at_least : (v n : ℤ) → int_le n v ≡ true → n ≤ℤ v
at_least v n h = grind (arith, ints)

self : (x : ℤ) → x ≤ℤ x
self x = omega (arith, ints)

module _ (part : VariablePart) (claim : Claim) (number : ℤ) where
  -- without a list, by the end
  pub where_from : part.listed ≡ None → pos 0 ≤ℤ part.coefficient → claim ≡ that (Variable part.var) AtLeast number → (weight : ℤ) → weight_at part number ≡ Some weight → WeighsWhere part claim (Some weight)
  where_from plain sign is weight weighs sets all w (v, member, at) =
      from_on part plain number weight sign (λ x here. at_weight (weight_at part number) weight x weight weighs here (self weight)) v w (at_least v number (subst (λ (c : Claim). IsEntailed sets c) is all v member)) at

  pub where_to : part.listed ≡ None → part.coefficient <ℤ pos 0 → claim ≡ that (Variable part.var) AtMost number → (weight : ℤ) → weight_at part number ≡ Some weight → WeighsWhere part claim (Some weight)
  where_to plain sign is weight weighs sets all w (v, member, at) =
      up_to part plain number weight sign (λ x here. at_weight (weight_at part number) weight x weight weighs here (self weight)) v w (at_most v number (subst (λ (c : Claim). IsEntailed sets c) is all v member)) at

  -- at one value
  pub where_equal : claim ≡ that (Variable part.var) Equal number → (weight : ℤ) → weight_at part number ≡ Some weight → WeighsWhere part claim (Some weight)
  where_equal is weight weighs sets all w (v, member, at) =
      let same : v ≡ number = equal_of v number (subst (λ (c : Claim). IsEntailed sets c) is all v member) in
      at_weight (weight_at part number) weight w weight weighs (ap (weight_at part) (sym same) ∙ at) (self weight)

  pub where_barred : claim ≡ that (Variable part.var) Equal number → weight_at part number ≡ None → WeighsWhere part claim None
  where_barred is barred sets all w (v, member, at) =
      let same : v ≡ number = equal_of v number (subst (λ (c : Claim). IsEntailed sets c) is all v member) in
      none_some w (sym barred ∙ ap (weight_at part) (sym same) ∙ at)

  -- beyond the list
  pub where_below : (listed : Listed) → part.listed ≡ Some listed → claim ≡ that (Variable part.var) AtMost number → number <ℤ listed.low → WeighsWhere part claim None
  where_below listed of is below sets all w (v, member, at) =
      let there = listed_only part listed of v w at in
      let value = there.2 in
      let low = at_most v number (subst (λ (c : Claim). IsEntailed sets c) is all v member) in
      omega (arith, ints, value, low, below)

  pub where_above : (listed : Listed) → part.listed ≡ Some listed → claim ≡ that (Variable part.var) AtLeast number → number ≡ listed.low +ℤ pos (length listed.weights) → WeighsWhere part claim None
  where_above listed of is end sets all w (v, member, at) =
      let there = listed_only part listed of v w at in
      let value = there.2 in
      let inside = there.1 in
      let high = at_least v number (subst (λ (c : Claim). IsEntailed sets c) is all v member) in
      omega (arith, ints, value, high, end, inside)
