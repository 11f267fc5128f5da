-- The order of integers and its tests, and sums on denied sets beside those on the trail.
use Rattle.std.proofs.Common.{◌≡◌, true, false, arith, int_le, ℤ, pos, ◌+ℤ◌, ◌≤ℤ◌, ◌<ℤ◌}
use Rattle.std.specs.Ordering.{int_eq}
use Rattle.std.proofs.lemmas.Int.{ints}

pub le_same : (a b : ℤ) → a ≡ b → a ≤ℤ b
le_same a b e = omega (arith, ints)

pub ge_same : (a b : ℤ) → a ≡ b → b ≤ℤ a
ge_same a b e = omega (arith, ints)

pub le_trans : (a b c : ℤ) → a ≤ℤ b → b ≤ℤ c → a ≤ℤ c
le_trans a b c h k = omega (arith, ints)

pub le_lt : (a b c : ℤ) → a ≤ℤ b → b <ℤ c → a <ℤ c
le_lt a b c h k = omega (arith, ints)

-- ---- tests

pub le_test : (a b c : ℤ) → a ≤ℤ b → b ≤ℤ c → int_le a c ≡ true
le_test a b c h k = grind (arith, ints)

pub equal_of : (v k : ℤ) → int_eq v k ≡ true → v ≡ k
equal_of v k h = grind (arith, ints)

pub equal_self : (v : ℤ) → int_eq v v ≡ false → ⊥
equal_self v h = grind (arith, ints)

pub at_most : (v n : ℤ) → int_le v n ≡ true → v ≤ℤ n
at_most v n h = grind (arith, ints)

-- ---- sums

-- one more on either side
pub step_more : (a b spare u v : ℤ) → a ≤ℤ (b +ℤ spare) → u ≤ℤ v → (a +ℤ u) ≤ℤ ((b +ℤ v) +ℤ spare)
step_more a b spare u v h k = omega (arith, ints)

-- one more, which is spared
pub step_spare : (a b spare u v : ℤ) → a ≤ℤ (b +ℤ spare) → pos 0 ≤ℤ v → (a +ℤ u) ≤ℤ ((b +ℤ v) +ℤ (spare +ℤ u))
step_spare a b spare u v h k = omega (arith, ints)

-- more is spared
pub wider : (x y a b : ℤ) → a ≤ℤ b → x ≤ℤ (y +ℤ a) → x ≤ℤ (y +ℤ b)
wider x y a b h k = omega (arith, ints)
