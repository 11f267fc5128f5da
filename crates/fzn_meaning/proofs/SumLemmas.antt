-- One more product of a sum stays within 128 bits.
use Rattle.std.proofs.Common.{◌≡◌, ◌+◌, ◌*◌, ◌^◌, ◌≤◌, ℤ, ◌+ℤ◌, ◌*ℤ◌, unsigned_abs, arith}
use Rattle.std.proofs.lemmas.Int.{ints, to_z-of_z, unsigned_abs-mul, fits_signed_from_abs}
use Rattle.std.proofs.Math.Nat.{mul-le-mul}
use Rattle.fzn_domain.specs.Limits.{IsSmall}
use mir.Syntax.{w64, w128}
use mir.Val.{to_z, of_z, SFits}

unsigned_abs-plus : (a b : ℤ) → unsigned_abs (a +ℤ b) ≤ unsigned_abs a + unsigned_abs b
unsigned_abs-plus a b = grind (arith, ints)

product_bound : (c x : ℤ) → IsSmall c → unsigned_abs x ≤ 2 ^ 63 → unsigned_abs (c *ℤ x) ≤ 1000000000 * 2 ^ 63
product_bound c x p q = rw (unsigned_abs-mul c x) (mul-le-mul p q)

value_bound : (x : ℤ) → SFits w64 x → unsigned_abs x ≤ 2 ^ 63
value_bound x fits = grind (arith, ints)

module _ (s c x : ℤ) (hc : IsSmall c) (hx : SFits w64 x) where
  pub plus_product-bound : unsigned_abs (s +ℤ c *ℤ x) ≤ unsigned_abs s + 1000000000 * 2 ^ 63
  plus_product-bound =
      let product = product_bound c x hc (value_bound x hx) in
      let both = unsigned_abs-plus s (c *ℤ x) in
      omega arith

  module _ (hs : unsigned_abs s ≤ 2 ^ 126) (hfc : SFits w64 c) where
    sum_fits : SFits w128 (s +ℤ c *ℤ x)
    sum_fits = fits_signed_from_abs w128 (s +ℤ c *ℤ x) (omega (arith, plus_product-bound))

    -- the terms that the code computes, by their values
    same : to_z w128 (of_z w128 s) +ℤ to_z w128 (of_z w128 (to_z w128 (of_z w128 (to_z w64 (of_z w64 c))) *ℤ to_z w128 (of_z w128 (to_z w64 (of_z w64 x))))) ≡ s +ℤ c *ℤ x
    same =
        let bx = value_bound x hx in
        let product = product_bound c x hc bx in
        let fs : SFits w128 s = fits_signed_from_abs w128 s (omega arith) in
        let fc : SFits w128 c = fits_signed_from_abs w128 c (omega arith) in
        let fx : SFits w128 x = fits_signed_from_abs w128 x (omega arith) in
        let fp : SFits w128 (c *ℤ x) = fits_signed_from_abs w128 (c *ℤ x) (omega arith) in
        rw (to_z-of_z w64 c hfc, to_z-of_z w64 x hx, to_z-of_z w128 s fs, to_z-of_z w128 c fc, to_z-of_z w128 x fx, to_z-of_z w128 (c *ℤ x) fp)

    pub plus_product-fits : SFits w128 (to_z w128 (of_z w128 s) +ℤ to_z w128 (of_z w128 (to_z w128 (of_z w128 (to_z w64 (of_z w64 c))) *ℤ to_z w128 (of_z w128 (to_z w64 (of_z w64 x))))))
    plus_product-fits = rw same sum_fits

    pub plus_product-is : to_z w128 (of_z w128 (to_z w128 (of_z w128 s) +ℤ to_z w128 (of_z w128 (to_z w128 (of_z w128 (to_z w64 (of_z w64 c))) *ℤ to_z w128 (of_z w128 (to_z w64 (of_z w64 x))))))) ≡ s +ℤ c *ℤ x
    plus_product-is = rw same (to_z-of_z w128 (s +ℤ c *ℤ x) sum_fits)
