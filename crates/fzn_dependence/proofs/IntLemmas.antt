-- Products of sums.
use Rattle.std.proofs.Common.{◌≡◌, ℕ, ◌+◌, ◌*◌, arith, ℤ, ◌+ℤ◌, ◌*ℤ◌, ap}
use Rattle.std.proofs.lemmas.Int.{ints}
use borrow.Author.Differences.{up, down}

pub plus_times : (a b v : ℤ) → (a +ℤ b) *ℤ v ≡ a *ℤ v +ℤ b *ℤ v
plus_times a b v =
    let e : up (a +ℤ b) + (down a + down b) ≡ down (a +ℤ b) + (up a + up b) = omega (arith, ints) in
    let p = ap (λ (n : ℕ). n * up v) e in
    let q = ap (λ (n : ℕ). n * down v) e in
    omega (arith, ints)

pub times_plus : (k a b : ℤ) → k *ℤ (a +ℤ b) ≡ k *ℤ a +ℤ k *ℤ b
times_plus k a b =
    let e : up (a +ℤ b) + (down a + down b) ≡ down (a +ℤ b) + (up a + up b) = omega (arith, ints) in
    let p = ap (λ (n : ℕ). up k * n) e in
    let q = ap (λ (n : ℕ). down k * n) e in
    omega (arith, ints)
