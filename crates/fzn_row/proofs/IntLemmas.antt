-- Products of products and of two that are in order.
use Rattle.std.proofs.Common.{◌≡◌, ℕ, ◌+◌, ◌*◌, ◌≤◌, arith, ℤ, pos, negsuc, ◌*ℤ◌, ◌≤ℤ◌, ap}
use Rattle.std.proofs.lemmas.Int.{ints}
use Rattle.std.proofs.Math.Nat.{mul-le-mul_left}
use borrow.Author.Differences.{up, down}

pub times_times : (k c v : ℤ) → (k *ℤ c) *ℤ v ≡ k *ℤ (c *ℤ v)
times_times k c v =
    let e : up (k *ℤ c) + (up k * down c + down k * up c) ≡ down (k *ℤ c) + (up k * up c + down k * down c) = omega (arith, ints) in
    let f : up (c *ℤ v) + (up c * down v + down c * up v) ≡ down (c *ℤ v) + (up c * up v + down c * down v) = omega (arith, ints) in
    let p = ap (λ (n : ℕ). n * up v) e in
    let q = ap (λ (n : ℕ). n * down v) e in
    let r = ap (λ (n : ℕ). up k * n) f in
    let s = ap (λ (n : ℕ). down k * n) f in
    omega (arith, ints)

-- a number above 0 keeps the order
pub times_le : (k a b : ℤ) → pos 1 ≤ℤ k → a ≤ℤ b → (k *ℤ a) ≤ℤ (k *ℤ b)
times_le (pos n) a b one le =
    let e : up a + down b ≤ up b + down a = omega (arith, ints) in
    let p : n * (up a + down b) ≤ n * (up b + down a) = mul-le-mul_left n e in
    omega (arith, ints)
times_le (negsuc n) a b one le = absurd (omega (arith, ints))

pub zero_times : (v : ℤ) → pos 0 *ℤ v ≡ pos 0
zero_times v = omega (arith, ints)

pub times_zero : (k : ℤ) → k *ℤ pos 0 ≡ pos 0
times_zero k = omega (arith, ints)
