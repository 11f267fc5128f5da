use Rattle.std.proofs.Common.{rules, ◌≡◌, ap₂, sym, subst, ◌∙◌, arith, ℤ, pos, ◌*ℤ◌, ◌≤ℤ◌, w64, to_z, of_z, FitsSigned}
use Rattle.std.proofs.lemmas.Int.{ints, to_z-of_z}
use Rattle.fzn_rules.specs.Energy.{least_energy}
use Rattle.fzn_cumulative.proofs.EnergyLemmas.{product_low, product_high}
use Rattle.fzn_cumulative.proofs.energy.energy_of.Goals as goal
use mir.Syntax.{w128}

wide : (x : ℤ) → pos 0 ≤ℤ x → x ≤ℤ pos 1000000000000000000 → to_z w128 (of_z w128 x) ≡ x
wide x low high = omega (arith, ints)

product_is : (a b product bits_a bits_b : ℤ) → product ≡ bits_a *ℤ bits_b → bits_a ≡ a → bits_b ≡ b → pos 0 ≤ℤ a → a ≤ℤ pos 1000000000 → pos 0 ≤ℤ b → b ≤ℤ pos 1000000000 → to_z w128 (of_z w128 product) ≡ a *ℤ b
product_is a b product bits_a bits_b is is_a is_b low_a high_a low_b high_b =
    let same = is ∙ ap₂ (λ (x y : ℤ). x *ℤ y) is_a is_b in
    wide product (subst (λ (x : ℤ). pos 0 ≤ℤ x) (sym same) (product_low a b low_a low_b)) (subst (λ (x : ℤ). x ≤ℤ pos 1000000000000000000) (sym same) (product_high a b low_a high_a low_b high_b)) ∙ same

pub returns-clause-value : goal.returns-clause-value
unfolding least_energy
returns-clause-value c =
    let fits_use : FitsSigned w64 c.least_use.result = search rules in
    let fits_cover : FitsSigned w64 c.least_cover.result = search rules in
    product_is c.least_use.result c.least_cover.result c.product.result _ _ c.product.ensures (to_z-of_z w64 c.least_use.result fits_use) (to_z-of_z w64 c.least_cover.result fits_cover) c.least_use.ensures.not_negative c.least_use.ensures.bounded c.least_cover.ensures.low c.least_cover.ensures.high
    ∙ ap₂ (λ (a b : ℤ). a *ℤ b) c.least_use.ensures.value c.least_cover.ensures.value

pub returns-clause-high : goal.returns-clause-high
returns-clause-high c =
    let fits_use : FitsSigned w64 c.least_use.result = search rules in
    let fits_cover : FitsSigned w64 c.least_cover.result = search rules in
    subst (λ (x : ℤ). x ≤ℤ pos 1000000000000000000)
    (sym (product_is c.least_use.result c.least_cover.result c.product.result _ _ c.product.ensures (to_z-of_z w64 c.least_use.result fits_use) (to_z-of_z w64 c.least_cover.result fits_cover) c.least_use.ensures.not_negative c.least_use.ensures.bounded c.least_cover.ensures.low c.least_cover.ensures.high))
    (product_high c.least_use.result c.least_cover.result c.least_use.ensures.not_negative c.least_use.ensures.bounded c.least_cover.ensures.low c.least_cover.ensures.high)
