use Rattle.std.proofs.Common.{arith, ◌≡◌, ◌≤◌, ◌*◌, unsigned_abs, ◌+ℤ◌, ◌*ℤ◌, ℤ, w64, to_z, of_z}
use Rattle.std.proofs.lemmas.Int.{ints, unsigned_abs-mul}
use Rattle.std.proofs.Math.Nat.{mul-le-mul}
use mir.Syntax.{w128}
use Rattle.fzn_dependence.proofs.dependence.Affine.at.Goals as goal

module _ (r p : ℤ) (r_small : unsigned_abs r ≤ 10000000000000000000000000000000000) (p_small : unsigned_abs p ≤ 10000000000000000000000000000000000) where
  sum-is : to_z w128 (of_z w128 (to_z w128 (of_z w128 r) +ℤ to_z w128 (of_z w128 p))) ≡ r +ℤ p
  sum-is = omega (arith, ints)

  sum-small : unsigned_abs (r +ℤ p) ≤ 100000000000000000000000000000000000
  sum-small = omega (arith, ints)

product-small : (a b : ℤ) → unsigned_abs a ≤ 1000000000000000000000000 → unsigned_abs b ≤ 10000000000 → unsigned_abs (a *ℤ b) ≤ 10000000000000000000000000000000000
product-small a b a_small b_small =
    let small : unsigned_abs (a *ℤ b) ≤ 1000000000000000000000000 * 10000000000 = rw (unsigned_abs-mul a b) (mul-le-mul a_small b_small) in
    omega arith

pub returns-clause-value : goal.returns-clause-value
returns-clause-value c =
    let sum = c.args.self.now in
    let b = c.args.value.now in
    let a_small : unsigned_abs sum.coefficient ≤ 1000000000000000000000000 = sum.coefficient_bounded in
    let b_small : unsigned_abs b ≤ 10000000000 = c.requires.value in
    let a_is : to_z w128 (of_z w128 sum.coefficient) ≡ sum.coefficient = omega (arith, ints) in
    let b_is : to_z w128 (of_z w128 (to_z w64 (of_z w64 b))) ≡ b = omega (arith, ints) in
    rw (a_is, b_is) (sum-is sum.rest (sum.coefficient *ℤ b) sum.rest_bounded (product-small sum.coefficient b a_small b_small))

pub returns-clause-bounded : goal.returns-clause-bounded
returns-clause-bounded c =
    let sum = c.args.self.now in
    let b = c.args.value.now in
    let a_small : unsigned_abs sum.coefficient ≤ 1000000000000000000000000 = sum.coefficient_bounded in
    let b_small : unsigned_abs b ≤ 10000000000 = c.requires.value in
    let a_is : to_z w128 (of_z w128 sum.coefficient) ≡ sum.coefficient = omega (arith, ints) in
    let b_is : to_z w128 (of_z w128 (to_z w64 (of_z w64 b))) ≡ b = omega (arith, ints) in
    let p_small = product-small sum.coefficient b a_small b_small in
    rw (a_is, b_is) (rw (sum-is sum.rest (sum.coefficient *ℤ b) sum.rest_bounded p_small) (sum-small sum.rest (sum.coefficient *ℤ b) sum.rest_bounded p_small))
