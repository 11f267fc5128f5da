-- Products and overlaps at 128 bits.
use Rattle.std.proofs.Common.{◌≡◌, ◌*◌, ◌≤◌, ◌^◌, ◌∙◌, arith, ℤ, pos, ◌+ℤ◌, ◌-ℤ◌, ◌*ℤ◌, unsigned_abs}
use Rattle.std.specs.Int.{int_min, int_max}
use Rattle.std.proofs.lemmas.Int.{ints, clamps, to_z-of_z, unsigned_abs-mul, fits_signed_from_abs}
use Rattle.std.proofs.Math.Nat.{mul-le-mul_right}
use Rattle.fzn_domain.specs.Limits.{IsInLimits}
use Rattle.fzn_rules.specs.Energy.{overlap}
use mir.Syntax.{w64, w128}
use mir.Val.{to_z, of_z, SFits}

pub product_bound : (a t : ℤ) → IsInLimits a → unsigned_abs (a *ℤ t) ≤ 1000000000 * unsigned_abs t
product_bound a t limits =
    let amount : unsigned_abs a ≤ 1000000000 = omega (arith, ints) in
    rw (unsigned_abs-mul a t) (mul-le-mul_right (unsigned_abs t) amount)

pub product_is : (a t : ℤ) → IsInLimits a → unsigned_abs t ≤ 2 ^ 64 → to_z w128 (of_z w128 (to_z w128 (of_z w128 (to_z w64 (of_z w64 a))) *ℤ to_z w128 (of_z w128 t))) ≡ a *ℤ t
product_is a t limits time =
    let bound : unsigned_abs (a *ℤ t) ≤ 1000000000 * unsigned_abs t = product_bound a t limits in
    let fits_amount : SFits w64 a = fits_signed_from_abs w64 a (omega (arith, ints)) in
    let fits_wide : SFits w128 a = fits_signed_from_abs w128 a (omega (arith, ints)) in
    let fits_time : SFits w128 t = fits_signed_from_abs w128 t (omega arith) in
    let fits : SFits w128 (a *ℤ t) = fits_signed_from_abs w128 (a *ℤ t) (omega arith) in
    rw (to_z-of_z w64 a fits_amount, to_z-of_z w128 a fits_wide, to_z-of_z w128 t fits_time, to_z-of_z w128 (a *ℤ t) fits)

either_way : (x : ℤ) → int_max x (pos 0) ≡ int_max (pos 0) x
either_way x = omega (arith, ints, clamps)

pub overlap_is : (from until start duration end begin covered : ℤ) → end ≡ int_min (start +ℤ duration) until → begin ≡ int_max start from → covered ≡ int_max (end -ℤ begin) (pos 0) → covered ≡ overlap from until start duration
overlap_is from until start duration end begin covered end_is begin_is is = is ∙ either_way (end -ℤ begin) ∙ rw (end_is, begin_is)

-- an overlap is no longer than the duration
pub overlap_bound : (from until start duration : ℤ) → IsInLimits duration → unsigned_abs (overlap from until start duration) ≤ 1000000000
overlap_bound from until start duration limits = omega (arith, ints, clamps)
