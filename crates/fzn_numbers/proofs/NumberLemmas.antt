-- Numbers: their tests, and those at which bits can begin.
use Rattle.std.proofs.Common.{◌≡◌, true, ℤ, ◌≤ℤ◌, ◌<ℤ◌, arith, int_le, int_lt, FitsSigned, to_z, of_z, to_z-of_z, w64}
use Rattle.std.proofs.lemmas.Int.{ints}
use Rattle.fzn_numbers.specs.Bits.{CanBeFirst}

pub le_test : (u v : ℤ) → u ≤ℤ v → int_le u v ≡ true
le_test u v h = grind (arith, ints)

pub test_le : (u v : ℤ) → int_le u v ≡ true → u ≤ℤ v
test_le u v e = omega (arith, ints)

pub lt_test : (u v : ℤ) → u <ℤ v → int_lt u v ≡ true
lt_test u v h = grind (arith, ints)

pub test_lt : (u v : ℤ) → int_lt u v ≡ true → u <ℤ v
test_lt u v e = omega (arith, ints)

pub fits : (v : ℤ) → CanBeFirst v → FitsSigned w64 v
fits v h = omega (arith, ints, h.before, h.behind)

pub real : (v : ℤ) → CanBeFirst v → to_z w64 (of_z w64 v) ≡ v
real v h = to_z-of_z (fits v h)
