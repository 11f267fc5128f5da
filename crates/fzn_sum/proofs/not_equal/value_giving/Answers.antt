use Rattle.std.proofs.Common.{◌≡◌, ◌≢◌, ◌≤◌, arith, ap, ap₂, sym, subst, ◌∙◌, ℤ, pos, ◌*ℤ◌, w64, of_z, to_z, unsigned_abs, FitsSigned}
use Rattle.std.specs.Int.{w128}
use Rattle.std.specs.Int.RustNames.{int_div}
use Rattle.std.proofs.lemmas.Int.{ints, to_z-of_z, fits_signed_mul}
use Rattle.fzn_domain.specs.Limits.{IsInLimits}
use Rattle.fzn_sum.proofs.ProductLemmas.{quotient_is}
use Rattle.fzn_sum.proofs.not_equal.value_giving.Goals as goal

-- the code's quotient is the value that gives the number
is_value : (number c v q : ℤ) → FitsSigned w128 number → FitsSigned w64 c → c ≢ pos 0 → q ≡ int_div (to_z w128 (of_z w128 number)) (to_z w64 (of_z w64 c)) → c *ℤ v ≡ number → q ≡ v
is_value number c v q fits small some is gives = is ∙ ap₂ int_div (to_z-of_z w128 number fits) (to_z-of_z w64 c small) ∙ quotient_is c v number some gives

fits_product : (c v : ℤ) → unsigned_abs c ≤ 1000000000 → IsInLimits v → FitsSigned w128 (c *ℤ v)
fits_product c v small limits = fits_signed_mul w128 c v 1000000000 1000000000 small (grind (arith, ints)) (omega arith)

-- the code's product
product_is : (wide c q : ℤ) → FitsSigned w64 c → wide ≡ to_z w64 (of_z w64 c) → IsInLimits q → to_z w128 (of_z w128 wide) *ℤ to_z w128 (of_z w128 q) ≡ c *ℤ q
product_is wide c q small is limits =
    let e : wide ≡ c = is ∙ to_z-of_z w64 c small in
    let f : to_z w128 (of_z w128 wide) ≡ c = ap (λ (x : ℤ). to_z w128 (of_z w128 x)) e ∙ omega (arith, ints) in
    let g : to_z w128 (of_z w128 q) ≡ q = omega (arith, ints) in
    ap₂ (λ (x y : ℤ). x *ℤ y) f g

same_bits : (a b : ℤ) → FitsSigned w128 a → FitsSigned w128 b → of_z w128 a ≡ of_z w128 b → a ≡ b
same_bits a b h k e = sym (to_z-of_z w128 a h) ∙ ap (to_z w128) e ∙ to_z-of_z w128 b k

pub returns-then-value-from-clause-none : goal.returns-then-value-from-clause-none
returns-then-value-from-clause-none c =
    λ v low high gives.
    let is : c.quotient-value.result ≡ v = is_value c.args.number c.args.coefficient v c.quotient-value.result c.ranges.number c.ranges.coefficient c.requires.some c.quotient-value.ensures gives in
    let f = c.from.ensures in
    let t = c.if-value-from.true in
    omega (arith, ints)

pub returns-then-from-value-clause-none : goal.returns-then-from-value-clause-none
returns-then-from-value-clause-none c =
    λ v low high gives.
    let is : c.quotient-value.result ≡ v = is_value c.args.number c.args.coefficient v c.quotient-value.result c.ranges.number c.ranges.coefficient c.requires.some c.quotient-value.ensures gives in
    let f = c.from-2.ensures in
    let t = c.if-from-value.true in
    omega (arith, ints)

pub overflow_mul-from : goal.overflow_mul-from
overflow_mul-from c =
    let f = c.from.ensures in
    let g = c.from-2.ensures in
    let low = c.if-value-from.false in
    let high = c.if-from-value.false in
    let limits : IsInLimits c.quotient-value.result = (omega (arith, ints), omega (arith, ints)) in
    subst (λ (z : ℤ). FitsSigned w128 z) (sym (product_is c.from-3.result c.args.coefficient c.quotient-value.result c.ranges.coefficient c.from-3.ensures limits))
    (fits_product c.args.coefficient c.quotient-value.result c.requires.small limits)

pub returns-then-from-value-2-clause-none : goal.returns-then-from-value-2-clause-none
returns-then-from-value-2-clause-none c =
    λ v low high gives.
    let is : c.quotient-value.result ≡ v = is_value c.args.number c.args.coefficient v c.quotient-value.result c.ranges.number c.ranges.coefficient c.requires.some c.quotient-value.ensures gives in
    let limits : IsInLimits c.quotient-value.result = (omega (arith, ints), omega (arith, ints)) in
    c.if-from-value-2.true (ap (of_z w128) (product_is c.from-3.result c.args.coefficient c.quotient-value.result c.ranges.coefficient c.from-3.ensures limits ∙ ap (λ (z : ℤ). c.args.coefficient *ℤ z) is ∙ gives))

pub returns-clause-found : goal.returns-clause-found
returns-clause-found c =
    let f = c.from.ensures in
    let g = c.from-2.ensures in
    let low = c.if-value-from.false in
    let high = c.if-from-value.false in
    let limits : IsInLimits c.quotient-value.result = (omega (arith, ints), omega (arith, ints)) in
    let narrow : to_z w64 (of_z w64 (to_z w128 (of_z w128 c.quotient-value.result))) ≡ c.quotient-value.result = omega (arith, ints) in
    let product = product_is c.from-3.result c.args.coefficient c.quotient-value.result c.ranges.coefficient c.from-3.ensures limits in
    let fits = fits_product c.args.coefficient c.quotient-value.result c.requires.small limits in
    ap (λ (z : ℤ). c.args.coefficient *ℤ z) narrow ∙ same_bits _ _ fits c.ranges.number (ap (of_z w128) (sym product) ∙ c.if-from-value-2.false)

pub returns-clause-within : goal.returns-clause-within
returns-clause-within c =
    let f = c.from.ensures in
    let g = c.from-2.ensures in
    let low = c.if-value-from.false in
    let high = c.if-from-value.false in
    (omega (arith, ints), omega (arith, ints))
