-- How large coefficients and constants can become.
use Rattle.std.proofs.Common.{◌≡◌, ℕ, ◌+◌, ◌*◌, ◌^◌, ◌≤◌, Bool, true, false, cond, eqb, List, [], ◌∷◌, length, arith, ℤ, pos, ◌+ℤ◌, ◌-ℤ◌, ◌*ℤ◌, unsigned_abs}
use Rattle.std.specs.List.{AllByRecursion}
use Rattle.std.proofs.lemmas.Int.{ints, unsigned_abs-mul, to_z-of_z, fits_signed_from_abs}
use Rattle.std.proofs.Math.Nat.{mul-le-mul}
use mir.Syntax.{w64, w128}
use mir.Val.{to_z, of_z, SFits}
use Rattle.fzn_domain.specs.Limits.{IsInLimits, IsSmall}
use Rattle.fzn_values.specs.declared.term.Term.{Term}
use Rattle.fzn_values.specs.declared.term.Term.TheVariants.{Constant, Variable}
use Rattle.fzn_values.specs.declared.term.Place.{Place}
use Rattle.fzn_values.specs.Term.{IsTerm, IsPlace}
use Rattle.fzn_derive.specs.Merged.{own_coefficient, coefficient_of, own_constant, constant_of}
use Rattle.fzn_derive.specs.Summed.{times}
use Rattle.fzn_derive.proofs.MergedLemmas.{coefficient_of-nil, coefficient_of-cons, constant_of-nil, constant_of-cons}

pub abs-plus : (a b : ℤ) → unsigned_abs (a +ℤ b) ≤ unsigned_abs a + unsigned_abs b
abs-plus a b = grind (arith, ints)

pub abs-minus : (a b : ℤ) → unsigned_abs (a -ℤ b) ≤ unsigned_abs a + unsigned_abs b
abs-minus a b = grind (arith, ints)

pub abs_small : (v : ℤ) → IsInLimits v → unsigned_abs v ≤ 1000000000
abs_small v within = let low = within.0 in let high = within.1 in grind (arith, ints)

pub abs-product : (a b : ℤ) (m n : ℕ) → unsigned_abs a ≤ m → unsigned_abs b ≤ n → unsigned_abs (a *ℤ b) ≤ m * n
abs-product a b m n p q = rw (unsigned_abs-mul a b) (mul-le-mul p q)

pub coefficient_within : (k c : ℤ) → unsigned_abs k ≤ 1000000000000 → IsSmall c → unsigned_abs (k *ℤ c) ≤ 1000000000000000000000
coefficient_within k c hk hc = abs-product k c 1000000000000 1000000000 hk hc

pub constant_within : (k c v : ℤ) → unsigned_abs k ≤ 1000000000000 → IsSmall c → IsInLimits v → unsigned_abs ((k *ℤ c) *ℤ v) ≤ 1000000000000000000000000000000
constant_within k c v hk hc hv = abs-product (k *ℤ c) v 1000000000000000000000 1000000000 (coefficient_within k c hk hc) (abs_small v hv)

picked : (b : Bool) (x : ℤ) (m : ℕ) → unsigned_abs x ≤ m → unsigned_abs (cond b x (pos 0)) ≤ m
picked true x m h = h
picked false x m h = omega arith

own-coefficient : (n : ℕ) (x : ℤ) (term : Term) (m : ℕ) → unsigned_abs x ≤ m → unsigned_abs (own_coefficient n x term) ≤ m
own-coefficient n x (Constant k) m h = omega arith
own-coefficient n x (Variable var) m h = picked (eqb n var.0) x m h

own-constant : (count : ℕ) (k c : ℤ) (term : Term) → unsigned_abs k ≤ 1000000000000 → IsSmall c → IsTerm count term → unsigned_abs (own_constant (k *ℤ c) term) ≤ 1000000000000000000000000000000
own-constant count k c (Constant v) hk hc fits = constant_within k c v hk hc fits
own-constant count k c (Variable var) hk hc fits = omega arith

pub coefficient-bound : (n count : ℕ) (k : ℤ) (places : List Place) → unsigned_abs k ≤ 1000000000000 → AllByRecursion (IsPlace count) places
    → unsigned_abs (coefficient_of n (times k places)) ≤ length places * 1000000000000000000000
coefficient-bound n count k [] hk fit = rw (coefficient_of-nil n) (omega arith)
coefficient-bound n count k (p ∷ places) hk fit =
    let own = own-coefficient n (k *ℤ p.coefficient) p.term 1000000000000000000000 (coefficient_within k p.coefficient hk fit.0.1) in
    let rest = coefficient-bound n count k places hk fit.1 in
    let both = abs-plus (own_coefficient n (k *ℤ p.coefficient) p.term) (coefficient_of n (times k places)) in
    rw (coefficient_of-cons n (record { coefficient = k *ℤ p.coefficient; term = p.term }) (times k places)) (omega arith)

pub constant-bound : (count : ℕ) (k : ℤ) (places : List Place) → unsigned_abs k ≤ 1000000000000 → AllByRecursion (IsPlace count) places
    → unsigned_abs (constant_of (times k places)) ≤ length places * 1000000000000000000000000000000
constant-bound count k [] hk fit = rw constant_of-nil (omega arith)
constant-bound count k (p ∷ places) hk fit =
    let own = own-constant count k p.coefficient p.term hk fit.0.1 fit.0.0 in
    let rest = constant-bound count k places hk fit.1 in
    let both = abs-plus (own_constant (k *ℤ p.coefficient) p.term) (constant_of (times k places)) in
    rw (constant_of-cons (record { coefficient = k *ℤ p.coefficient; term = p.term }) (times k places)) (omega arith)

-- ---- what the code computes

pub sum-is : (s a : ℤ) → unsigned_abs s ≤ 2 ^ 125 → unsigned_abs a ≤ 2 ^ 125 → to_z w128 (of_z w128 (to_z w128 (of_z w128 s) +ℤ to_z w128 (of_z w128 a))) ≡ s +ℤ a
sum-is s a hs ha =
    let fs : SFits w128 s = fits_signed_from_abs w128 s (omega arith) in
    let fa : SFits w128 a = fits_signed_from_abs w128 a (omega arith) in
    let both = abs-plus s a in
    let fits : SFits w128 (s +ℤ a) = fits_signed_from_abs w128 (s +ℤ a) (omega arith) in
    rw (to_z-of_z w128 s fs, to_z-of_z w128 a fa) (to_z-of_z w128 (s +ℤ a) fits)

pub less_product-is : (n c v : ℤ) → SFits w128 n → SFits w128 c → SFits w64 v → unsigned_abs n ≤ 2 ^ 125 → unsigned_abs c ≤ 1000000000 * 2 ^ 63 → IsInLimits v
    → to_z w128 (of_z w128 (to_z w128 (of_z w128 n) -ℤ to_z w128 (of_z w128 (to_z w128 (of_z w128 c) *ℤ to_z w128 (of_z w128 (to_z w64 (of_z w64 v))))))) ≡ n -ℤ c *ℤ v
less_product-is n c v fn fc fv hn hc hv =
    let small = abs_small v hv in
    let product = abs-product c v (1000000000 * 2 ^ 63) 1000000000 hc small in
    let rest = abs-minus n (c *ℤ v) in
    let wide : SFits w128 v = fits_signed_from_abs w128 v (omega arith) in
    let fp : SFits w128 (c *ℤ v) = fits_signed_from_abs w128 (c *ℤ v) (omega arith) in
    let fits : SFits w128 (n -ℤ c *ℤ v) = fits_signed_from_abs w128 (n -ℤ c *ℤ v) (omega arith) in
    rw (to_z-of_z w64 v fv, to_z-of_z w128 v wide, to_z-of_z w128 c fc, to_z-of_z w128 n fn, to_z-of_z w128 (c *ℤ v) fp) (to_z-of_z w128 (n -ℤ c *ℤ v) fits)

pub small-fits : (v : ℤ) → IsSmall v → SFits w64 v
small-fits v small = fits_signed_from_abs w64 v (omega arith)

pub limits-fit : (v : ℤ) → IsInLimits v → SFits w64 v
limits-fit v within = let h = abs_small v within in fits_signed_from_abs w64 v (omega arith)

-- by their values
pub product-plain : (sum c m result : ℤ) → SFits w128 sum → SFits w64 c → SFits w64 m → result ≡ to_z w128 (of_z w128 sum) +ℤ to_z w64 (of_z w64 c) *ℤ to_z w64 (of_z w64 m) → result ≡ sum +ℤ c *ℤ m
product-plain sum c m result fs fc fm is = rw (to_z-of_z w128 sum fs, to_z-of_z w64 c fc, to_z-of_z w64 m fm) at is

pub left-plain : (n c v left : ℤ) → SFits w128 n → SFits w128 c → SFits w64 v → left ≡ to_z w128 (of_z w128 n) -ℤ to_z w128 (of_z w128 c) *ℤ to_z w64 (of_z w64 v) → left ≡ n -ℤ c *ℤ v
left-plain n c v left fn fc fv is = rw (to_z-of_z w128 n fn, to_z-of_z w128 c fc, to_z-of_z w64 v fv) at is
