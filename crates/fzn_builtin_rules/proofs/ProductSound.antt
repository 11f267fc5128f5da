-- The rule `box`: on sets where it is met, no choice of one value from each set meets the constraint.
use Rattle.std.proofs.Common.{◌≡◌, List, subst, inl, inr, arith, ℤ, pos, negsuc, ◌*ℤ◌, ◌<ℤ◌}
use Rattle.std.proofs.lemmas.Int.{ints}
use Rattle.std.proofs.lemmas.List.Elements.{recursion_from_All}
use Rattle.std.proofs.Math.IntN.{*ℤ_comm}
use Rattle.fzn_domain.specs.IntSet.{IntSet}
use Rattle.fzn_domain.specs.Narrow.{IsWithin}
use Rattle.fzn_values.specs.declared.term.Term.{Term}
use Rattle.fzn_meaning.specs.declared.arithmetic.Operation.TheVariants as operation
use Rattle.fzn_meaning.specs.declared.constraint.Constraint.{Constraint}
use Rattle.fzn_meaning.specs.declared.constraint.Constraint.TheVariants as constraint
use Rattle.fzn_values.specs.Term.{term_value}
use Rattle.fzn_meaning.specs.Meaning.{Meets}
use Rattle.fzn_sets.specs.Terms.{least_value, greatest_value}
use Rattle.fzn_builtin_rules.specs.Product.{corners, IsProductOut, IsBoxMet}
use Rattle.fzn_builtin_rules.proofs.ProductLemmas.{mono_up, mono_down}
use Rattle.fzn_sets.proofs.CallerLemmas.{IsBetween, term_between}

-- with one factor between two numbers: above, below what both products are
above_both : (c low high x bound : ℤ) → IsBetween low high x → bound <ℤ (c *ℤ low) → bound <ℤ (c *ℤ high) → bound <ℤ (c *ℤ x)
above_both (pos n) low high x bound between first second = let step = mono_up n low x between.0 in omega (arith, ints)
above_both (negsuc n) low high x bound between first second = let step = mono_down n x high between.1 in omega (arith, ints)

below_both : (c low high x bound : ℤ) → IsBetween low high x → (c *ℤ low) <ℤ bound → (c *ℤ high) <ℤ bound → (c *ℤ x) <ℤ bound
below_both (pos n) low high x bound between first second = let step = mono_up n x high between.1 in omega (arith, ints)
below_both (negsuc n) low high x bound between first second = let step = mono_down n low x between.0 in omega (arith, ints)

swapped_above : (a b bound : ℤ) → bound <ℤ (a *ℤ b) → bound <ℤ (b *ℤ a)
swapped_above a b bound h = subst (λ (p : ℤ). bound <ℤ p) (*ℤ_comm a b) h

swapped_below : (a b bound : ℤ) → (a *ℤ b) <ℤ bound → (b *ℤ a) <ℤ bound
swapped_below a b bound h = subst (λ (p : ℤ). p <ℤ bound) (*ℤ_comm a b) h

-- the product of two numbers between their bounds, from the four products of the bounds
above_corners : (a b c d v w bound : ℤ) → IsBetween a b v → IsBetween c d w → bound <ℤ (a *ℤ c) → bound <ℤ (a *ℤ d) → bound <ℤ (b *ℤ c) → bound <ℤ (b *ℤ d) → bound <ℤ (v *ℤ w)
above_corners a b c d v w bound left right ac ad bc bd =
    let low = above_both c a b v bound left (swapped_above a c bound ac) (swapped_above b c bound bc) in
    let high = above_both d a b v bound left (swapped_above a d bound ad) (swapped_above b d bound bd) in
    above_both v c d w bound right (swapped_above c v bound low) (swapped_above d v bound high)

below_corners : (a b c d v w bound : ℤ) → IsBetween a b v → IsBetween c d w → (a *ℤ c) <ℤ bound → (a *ℤ d) <ℤ bound → (b *ℤ c) <ℤ bound → (b *ℤ d) <ℤ bound → (v *ℤ w) <ℤ bound
below_corners a b c d v w bound left right ac ad bc bd =
    let low = below_both c a b v bound left (swapped_below a c bound ac) (swapped_below b c bound bc) in
    let high = below_both d a b v bound left (swapped_below a d bound ad) (swapped_below b d bound bd) in
    below_both v c d w bound right (swapped_below c v bound low) (swapped_below d v bound high)

module _ (sets : List IntSet) (values : List ℤ) (within : IsWithin sets values) where
  abbrev value : Term → ℤ
  value term = term_value values term

  product_out : (left right result : Term) → IsProductOut sets left right result → value left *ℤ value right ≡ value result → ⊥
  product_out left right result out is =
      let l = term_between sets values left within in
      let r = term_between sets values right within in
      let last = term_between sets values result within in
      elim out [
        | inl above ↦
            let each = recursion_from_All (λ product. greatest_value sets result <ℤ product) (corners sets left right) above in
            let more = above_corners (least_value sets left) (greatest_value sets left) (least_value sets right) (greatest_value sets right) (value left) (value right) (greatest_value sets result) l r each.0 each.1.0 each.1.1.0 each.1.1.1.0 in
            omega (arith, ints)
        | inr below ↦
            let each = recursion_from_All (λ product. product <ℤ least_value sets result) (corners sets left right) below in
            let less = below_corners (least_value sets left) (greatest_value sets left) (least_value sets right) (greatest_value sets right) (value left) (value right) (least_value sets result) l r each.0 each.1.0 each.1.1.0 each.1.1.1.0 in
            omega (arith, ints)
      ]

  box_cases : (c : Constraint) → IsBoxMet c sets → Meets c values → ⊥
  unfolding IsBoxMet Meets
  box_cases (constraint.Arithmetic operation.Times left right result) rule met = product_out left right result rule met
  box_cases _ rule met = rule

pub box_sound : (c : Constraint) (sets : List IntSet) (values : List ℤ) → IsBoxMet c sets → IsWithin sets values → Meets c values → ⊥
box_sound c sets values rule within met = box_cases sets values within c rule met
