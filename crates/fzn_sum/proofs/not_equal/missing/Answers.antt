use Rattle.std.proofs.Common.{◌≡◌, ◌*◌, ◌≤◌, arith, ap, ap₂, ◌∙◌, ℤ, ◌+ℤ◌, ◌-ℤ◌, w64, of_z, to_z, unsigned_abs, FitsSigned}
use Rattle.std.specs.Int.{w128}
use Rattle.std.proofs.lemmas.Int.{ints, to_z-of_z, fits_signed_from_abs}
use Rattle.fzn_sum.proofs.not_equal.missing.Goals as goal

-- the code's sum
added : (n l p : ℤ) → unsigned_abs n ≤ 1000000001 → unsigned_abs l ≤ 200000 * 1000000000000000000 → unsigned_abs p ≤ 1000000000000000000 → to_z w128 (of_z w128 (to_z w128 (of_z w128 (to_z w128 (of_z w128 n) -ℤ to_z w128 (of_z w128 l))) +ℤ to_z w128 (of_z w128 p))) ≡ (n -ℤ l) +ℤ p
added n l p a b d =
    let less : to_z w128 (of_z w128 n) -ℤ to_z w128 (of_z w128 l) ≡ n -ℤ l =
    ap₂ (λ (x y : ℤ). x -ℤ y) (to_z-of_z w128 n (fits_signed_from_abs w128 n (omega arith))) (to_z-of_z w128 l (fits_signed_from_abs w128 l (omega arith))) in
    let less_fits : FitsSigned w128 (n -ℤ l) = fits_signed_from_abs w128 (n -ℤ l) (grind (arith, ints)) in
    let all_fits : FitsSigned w128 ((n -ℤ l) +ℤ p) = fits_signed_from_abs w128 ((n -ℤ l) +ℤ p) (grind (arith, ints)) in
    ap (λ (z : ℤ). to_z w128 (of_z w128 z))
    (ap₂ (λ (x y : ℤ). x +ℤ y) (ap (λ (z : ℤ). to_z w128 (of_z w128 z)) less ∙ to_z-of_z w128 (n -ℤ l) less_fits) (to_z-of_z w128 p (fits_signed_from_abs w128 p (omega arith))))
    ∙ to_z-of_z w128 ((n -ℤ l) +ℤ p) all_fits

pub returns-clause-value : goal.returns-clause-value
returns-clause-value c =
    let same : c.from.result ≡ c.args.number = c.from.ensures ∙ to_z-of_z w64 c.args.number c.ranges.number in
    let small : unsigned_abs c.from.result ≤ 1000000001 = let h = c.requires.bounded in omega (arith, ap unsigned_abs same) in
    added c.from.result c.least_sum.result c.low_product.result small c.least_sum.ensures.bounded c.low_product.ensures.bounded
    ∙ ap₂ (λ (x y : ℤ). x +ℤ y) (ap₂ (λ (x y : ℤ). x -ℤ y) same c.least_sum.ensures.value) c.low_product.ensures.value
