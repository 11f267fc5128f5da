-- Intervals in which nothing meets a constraint refute it.
use Rattle.std.proofs.Common.{◌≡◌, ℕ, ◌*◌, ◌≤◌, true, false, List, [], ◌∷◌, length, refl, sym, ap, subst, ◌∙◌, All, ◌⊎◌, inl, inr, arith, ℤ, pos, negsuc, ◌+ℤ◌, ◌-ℤ◌, unsigned_abs, ◌*ℤ◌, ◌<ℤ◌, ◌≤ℤ◌}
use Rattle.std.proofs.lemmas.Int.{ints}
use Rattle.std.proofs.lemmas.List.Elements.{All-from_recursion, recursion_from_All}
use Rattle.std.proofs.Math.IntN.{*ℤ_comm, pos-*ℤ-pos}
use Rattle.std.proofs.Math.Nat.{mul-le-mul}
use Rattle.fzn_domain.specs.IntSet.{IntSet, contains, width, range, natural_part}
use Rattle.fzn_domain.specs.Narrow.{set_of, is_some_empty}
use Rattle.fzn_domain.proofs.DomainLemmas.{by_order}
use Rattle.fzn_domain.proofs.SetLemmas.{size_within, size-range, contains-range}
use Rattle.fzn_values.specs.declared.term.Term.{Term}
use Rattle.fzn_values.specs.declared.term.Term.TheVariants.{Constant, Variable}
use Rattle.fzn_meaning.specs.declared.arithmetic.Operation.{Operation}
use Rattle.fzn_meaning.specs.declared.arithmetic.Operation.TheVariants as operation
use Rattle.fzn_meaning.specs.declared.constraint.Constraint.TheVariants as constraint
use Rattle.fzn_values.specs.Term.{IsTerm}
use Rattle.fzn_sets.specs.Terms.{MayBe, least_value, greatest_value}
use Rattle.fzn_sets.proofs.ValueLemmas.{IsBetween, MayBe-ends}
use Rattle.fzn_builtin_rules.specs.Choices.{inputs_of, result_of, Relates, NoneOf, count_of, IsChoice}
use Rattle.fzn_builtin_rules.specs.Product.{corners, IsBoxMet}
use Rattle.fzn_builtin_rules.specs.Rows.{IsRowsMet}
use Rattle.fzn_terms.proofs.ProductLemmas.{mono_up, mono_down}
use Rattle.fzn_rules.specs.declared.rule.Rule.TheVariants as rule
use Rattle.fzn_rules.specs.Rules.{IsMet}
use Rattle.fzn_terms.specs.declared.claim.Claim.{Claim}
use Rattle.fzn_terms.specs.Denied.{IsDenied, Refute}
use Rattle.fzn_terms.specs.declared.interval.Interval.{Interval}
use Rattle.fzn_arithmetic.specs.declared.excluded.Shape.{Shape}
use Rattle.fzn_arithmetic.specs.declared.excluded.Shape.TheVariants.{Product, Quotient, Remainder, Absolute}
use Rattle.fzn_terms.specs.Intervals.{IsIn, LiesIn}
use Rattle.fzn_arithmetic.specs.declared.pass.Pass.{Pass}
use Rattle.fzn_arithmetic.specs.Passes.{shape_constraint}
use Rattle.fzn_arithmetic.specs.Excluded.{shaped, rule_of, IsProductBeyond, IsAbsoluteBeyond, NoneGives, IsFew, AreFewPairs, Excludes}

-- ---- products of numbers between bounds

above_both : (c low high x bound : ℤ) → IsBetween low high x → bound <ℤ (c *ℤ low) → bound <ℤ (c *ℤ high) → bound <ℤ (c *ℤ x)
above_both (pos n) low high x bound between first second = let step = mono_up (pos n) low x (omega (arith, ints)) between.0 in omega (arith, ints)
above_both (negsuc n) low high x bound between first second = let step = mono_down (negsuc n) x high (omega (arith, ints)) between.1 in omega (arith, ints)

below_both : (c low high x bound : ℤ) → IsBetween low high x → (c *ℤ low) <ℤ bound → (c *ℤ high) <ℤ bound → (c *ℤ x) <ℤ bound
below_both (pos n) low high x bound between first second = let step = mono_up (pos n) x high (omega (arith, ints)) between.1 in omega (arith, ints)
below_both (negsuc n) low high x bound between first second = let step = mono_down (negsuc n) low x (omega (arith, ints)) between.0 in omega (arith, ints)

swapped_above : (a b bound : ℤ) → bound <ℤ (a *ℤ b) → bound <ℤ (b *ℤ a)
swapped_above a b bound h = subst (λ (p : ℤ). bound <ℤ p) (*ℤ_comm a b) h

swapped_below : (a b bound : ℤ) → (a *ℤ b) <ℤ bound → (b *ℤ a) <ℤ bound
swapped_below a b bound h = subst (λ (p : ℤ). p <ℤ bound) (*ℤ_comm a b) h

pub above_corners : (l r : Interval) (bound : ℤ) → bound <ℤ (l.low *ℤ r.low) → bound <ℤ (l.low *ℤ r.high) → bound <ℤ (l.high *ℤ r.low) → bound <ℤ (l.high *ℤ r.high) → (v w : ℤ) → IsIn l v → IsIn r w → bound <ℤ (v *ℤ w)
above_corners l r bound ac ad bc bd v w left right =
    let low = above_both r.low l.low l.high v bound (left.0, left.1) (swapped_above l.low r.low bound ac) (swapped_above l.high r.low bound bc) in
    let high = above_both r.high l.low l.high v bound (left.0, left.1) (swapped_above l.low r.high bound ad) (swapped_above l.high r.high bound bd) in
    above_both v r.low r.high w bound (right.0, right.1) (swapped_above r.low v bound low) (swapped_above r.high v bound high)

pub below_corners : (l r : Interval) (bound : ℤ) → (l.low *ℤ r.low) <ℤ bound → (l.low *ℤ r.high) <ℤ bound → (l.high *ℤ r.low) <ℤ bound → (l.high *ℤ r.high) <ℤ bound → (v w : ℤ) → IsIn l v → IsIn r w → (v *ℤ w) <ℤ bound
below_corners l r bound ac ad bc bd v w left right =
    let low = below_both r.low l.low l.high v bound (left.0, left.1) (swapped_below l.low r.low bound ac) (swapped_below l.high r.low bound bc) in
    let high = below_both r.high l.low l.high v bound (left.0, left.1) (swapped_below l.low r.high bound ad) (swapped_below l.high r.high bound bd) in
    below_both v r.low r.high w bound (right.0, right.1) (swapped_below r.low v bound low) (swapped_below r.high v bound high)

-- ---- how many values lie in an interval

one_wide : (low high k : ℤ) → low ≤ℤ k → k ≤ℤ high → 1 ≤ width low high
one_wide low high k from to = grind (arith, ints)

count_in : (sets : List IntSet) (term : Term) (interval : Interval) → LiesIn sets term interval → count_of sets term ≤ width interval.low interval.high
count_in sets (Constant k) interval inside = let here = inside k refl in one_wide interval.low interval.high k here.0 here.1
count_in sets (Variable var) interval inside =
    let within = size_within (set_of sets var) (range interval.low interval.high) (λ v here. in_range interval.low interval.high v (inside v here).0 (inside v here).1) in
    let wide = size-range interval.low interval.high in
    omega arith
  where
    in_range : (low high v : ℤ) → low ≤ℤ v → v ≤ℤ high → contains (range low high) v ≡ true
    in_range low high v from to = grind (arith, ints, contains-range)

few_choices : (a b m n : ℕ) → a ≤ m → b ≤ n → (m * n) ≤ 4096 → (a * (b * 1)) ≤ 4096
few_choices a b m n first second few =
    let one : b * 1 ≡ b = omega arith in
    let both : a * b ≤ m * n = mul-le-mul first second in
    subst (λ (x : ℕ). (a * x) ≤ 4096) (sym one) (omega arith)

-- from the widths as they are computed
pub few_of : (a b c d m n : ℤ) → AreFewPairs m n → m ≡ b +ℤ pos 1 -ℤ a → n ≡ d +ℤ pos 1 -ℤ c → (width a b * width c d) ≤ 4096
few_of a b c d (pos m) (pos n) pairs first second =
    let wide : width a b ≡ m = ap natural_part (sym first) in
    let high : width c d ≡ n = ap natural_part (sym second) in
    let product = pos-*ℤ-pos m n in
    let few = pairs.few in
    let small : m * n ≤ 4096 = omega (arith, ints) in
    subst (λ (x : ℕ). (x * width c d) ≤ 4096) (sym wide) (subst (λ (x : ℕ). (m * x) ≤ 4096) (sym high) small)
few_of a b c d (pos m) (negsuc n) pairs first second = let more = pairs.more in absurd (omega (arith, ints))
few_of a b c d (negsuc m) n pairs first second = let some = pairs.some in absurd (omega (arith, ints))

-- ---- numbers one by one

-- no number from the first up to another, without it, is in the way
pub none_more : (P : ℤ → Type 0) (low number at : ℤ) → ((x : ℤ) → low ≤ℤ x → x <ℤ number → P x) → P at → at ≡ number → (x : ℤ) → low ≤ℤ x → x <ℤ (number +ℤ pos 1) → P x
none_more P low number at before here at_is x from upto =
    by_order number x (λ after. let same : at ≡ x = omega (arith, ints) in subst P same here) (λ less. before x from less)

-- ---- absolute values

pub absolute_sides : (v : ℤ) → (pos (unsigned_abs v) ≡ v) ⊎ (pos (unsigned_abs v) ≡ pos 0 -ℤ v)
absolute_sides (pos n) = inl refl
absolute_sides (negsuc n) = inr (grind (arith, ints))

-- ---- terms that lie in such intervals

-- so do the least and the greatest value of such a term
ends_inside : (sets : List IntSet) (term : Term) (interval : Interval) → is_some_empty sets ≡ false → IsTerm (length sets) term → LiesIn sets term interval → IsIn interval (least_value sets term) × IsIn interval (greatest_value sets term)
ends_inside sets term interval filled fits inside = let ends = MayBe-ends sets term filled fits in (inside _ ends.0, inside _ ends.1)

module _ (sets : List IntSet) (left right of : Term) (l r o : Interval) (filled : is_some_empty sets ≡ false) (in_l : LiesIn sets left l) (in_r : LiesIn sets right r) (in_o : LiesIn sets of o) where
  met_product : IsTerm (length sets) left → IsTerm (length sets) right → IsTerm (length sets) of → IsProductBeyond l r o → IsMet (constraint.Arithmetic operation.Times left right of) sets rule.Box
  unfolding IsMet IsBoxMet
  met_product first second third beyond =
      let x = ends_inside sets left l filled first in_l in
      let y = ends_inside sets right r filled second in_r in
      let z = ends_inside sets of o filled third in_o in
      elim beyond [
        | inl above ↦ inl (All-from_recursion (λ (product : ℤ). greatest_value sets of <ℤ product) (corners sets left right)
            (exceeds _ (above _ _ x.0 y.0) z.1.1, (exceeds _ (above _ _ x.0 y.1) z.1.1, (exceeds _ (above _ _ x.1 y.0) z.1.1, (exceeds _ (above _ _ x.1 y.1) z.1.1, tt)))))
        | inr below ↦ inr (All-from_recursion (λ (product : ℤ). product <ℤ least_value sets of) (corners sets left right)
            (falls_short _ (below _ _ x.0 y.0) z.0.0, (falls_short _ (below _ _ x.0 y.1) z.0.0, (falls_short _ (below _ _ x.1 y.0) z.0.0, (falls_short _ (below _ _ x.1 y.1) z.0.0, tt)))))
      ]
    where
      exceeds : (p : ℤ) → o.high <ℤ p → greatest_value sets of ≤ℤ o.high → greatest_value sets of <ℤ p
      exceeds p more most = omega (arith, ints)

      falls_short : (p : ℤ) → p <ℤ o.low → o.low ≤ℤ least_value sets of → p <ℤ least_value sets of
      falls_short p less least = omega (arith, ints)

  met_absolute : IsAbsoluteBeyond l o → IsMet (constraint.IntAbs left of) sets rule.Rows
  unfolding IsMet IsRowsMet
  met_absolute beyond = inl (λ v may there. beyond v (in_l v may) (in_o _ there))

  no_choice : (given : Operation) → NoneGives given l r o → (choice : List ℤ) → IsChoice sets (left ∷ right ∷ []) choice → NoneOf sets (result_of (constraint.Arithmetic given left right of)) (Relates (constraint.Arithmetic given left right of) choice)
  unfolding result_of Relates
  no_choice given none [] is = absurd is
  no_choice given none (x ∷ []) is = absurd is.1
  no_choice given none (x ∷ y ∷ []) is = λ v may gives. none x y v (in_l x is.0) (in_r y is.1.0) gives (in_o v may)
  no_choice given none (x ∷ y ∷ z ∷ rest) is = absurd is.1.1

  met_choices : (given : Operation) → IsFew l r → NoneGives given l r o → IsMet (constraint.Arithmetic given left right of) sets rule.Enum
  unfolding IsMet inputs_of
  met_choices given few none = (
    few_choices (count_of sets left) (count_of sets right) _ _ (count_in sets left l in_l) (count_in sets right r in_r) few,
    no_choice given none,
  )

  met_shaped : (shape : Shape) → IsTerm (length sets) left → IsTerm (length sets) right → IsTerm (length sets) of → Excludes shape l r o → IsMet (shaped shape left right of) sets (rule_of shape)
  met_shaped Product first second third none = met_product first second third none
  met_shaped Quotient first second third none = met_choices operation.Quotient none.0 none.1
  met_shaped Remainder first second third none = met_choices operation.Remainder none.0 none.1
  met_shaped Absolute first second third none = met_absolute none

-- ---- claims that say that some term lies elsewhere

pub refuted_shaped : (pass : Pass) (l r o : Interval) (a b c d e f : Claim) → ((sets : List IntSet) → IsDenied sets a → IsDenied sets b → LiesIn sets pass.left l) → ((sets : List IntSet) → IsDenied sets c → IsDenied sets d → LiesIn sets pass.right r) → ((sets : List IntSet) → IsDenied sets e → IsDenied sets f → LiesIn sets pass.of o) → Excludes pass.shape l r o → Refute (length pass.trail.now.declared) (a ∷ b ∷ c ∷ d ∷ e ∷ f ∷ []) (shape_constraint pass) (rule_of pass.shape)
refuted_shaped pass l r o a b c d e f in_left in_right in_of none sets denying =
    let each = recursion_from_All (IsDenied sets) (a ∷ b ∷ c ∷ d ∷ e ∷ f ∷ []) denying.denied in
    met_shaped sets pass.left pass.right pass.of l r o denying.filled (in_left sets each.0 each.1.0) (in_right sets each.1.1.0 each.1.1.1.0) (in_of sets each.1.1.1.1.0 each.1.1.1.1.1.0) pass.shape
    (subst (λ (n : ℕ). IsTerm n pass.left) (sym denying.one_each) pass.left_fits) (subst (λ (n : ℕ). IsTerm n pass.right) (sym denying.one_each) pass.right_fits) (subst (λ (n : ℕ). IsTerm n pass.of) (sym denying.one_each) pass.of_fits) none

-- the absolute value of none that the first term may be is one that the other may be
refuted_where : (pass : Pass) (claims : List Claim) → pass.shape ≡ Absolute → ((sets : List IntSet) → All (IsDenied sets) claims → (v : ℤ) → MayBe sets pass.left v → MayBe sets pass.of (pos (unsigned_abs v)) → ⊥) → Refute (length pass.trail.now.declared) claims (shape_constraint pass) (rule_of pass.shape)
unfolding IsMet IsRowsMet
refuted_where pass claims is never =
    subst (λ (s : Shape). Refute (length pass.trail.now.declared) claims (shaped s pass.left pass.right pass.of) (rule_of s)) (sym is) (λ sets denying. inl (λ v may there. never sets denying.denied v may there))

-- the first term has one value alone, and the other not its absolute value
pub refuted_value : (pass : Pass) (value number : ℤ) (first second : Claim) → pass.shape ≡ Absolute → number ≡ pos (unsigned_abs value) → ((sets : List IntSet) (v : ℤ) → IsDenied sets first → MayBe sets pass.left v → v ≡ value) → ((sets : List IntSet) → IsDenied sets second → MayBe sets pass.of number → ⊥) → Refute (length pass.trail.now.declared) (first ∷ second ∷ []) (shape_constraint pass) (rule_of pass.shape)
refuted_value pass value number first second shape number_is only never = refuted_where pass (first ∷ second ∷ []) shape (λ sets all v may there.
    let each = recursion_from_All (IsDenied sets) (first ∷ second ∷ []) all in
    let same : v ≡ value = only sets v each.0 may in
    never sets each.1.0 (subst (λ (x : ℤ). MayBe sets pass.of x) (sym number_is) (subst (λ (x : ℤ). MayBe sets pass.of (pos (unsigned_abs x))) same there)))

-- a number of that absolute value
absolute_of : (P : ℤ → Type 0) (v value opposite : ℤ) → opposite ≡ pos 0 -ℤ value → pos (unsigned_abs v) ≡ value → P v → (P value → ⊥) → (P opposite → ⊥) → ⊥
absolute_of P v value opposite opposite_is is here first second = elim (absolute_sides v) [
  | inl same ↦ first (subst P (sym same ∙ is) here)
  | inr other ↦ let at : v ≡ opposite = omega (arith, ints) in second (subst P at here)
]

-- the absolute value is one value alone, and the first term has no number of that absolute value
pub refuted_absolute : (pass : Pass) (value opposite : ℤ) (first second third : Claim) → pass.shape ≡ Absolute → opposite ≡ pos 0 -ℤ value → ((sets : List IntSet) (v : ℤ) → IsDenied sets first → MayBe sets pass.of v → v ≡ value) → ((sets : List IntSet) → IsDenied sets second → MayBe sets pass.left value → ⊥) → ((sets : List IntSet) → IsDenied sets third → MayBe sets pass.left opposite → ⊥) → Refute (length pass.trail.now.declared) (first ∷ second ∷ third ∷ []) (shape_constraint pass) (rule_of pass.shape)
refuted_absolute pass value opposite first second third shape opposite_is only never never_opposite = refuted_where pass (first ∷ second ∷ third ∷ []) shape (λ sets all v may there.
    let each = recursion_from_All (IsDenied sets) (first ∷ second ∷ third ∷ []) all in
    absolute_of (MayBe sets pass.left) v value opposite opposite_is (only sets _ each.0 there) may (never sets each.1.0) (never_opposite sets each.1.1.0))
