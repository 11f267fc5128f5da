-- Products with one factor kept.
use Rattle.std.proofs.Common.{ℕ, suc, ◌*◌, ◌≤◌, arith, ℤ, pos, negsuc, ◌*ℤ◌, ◌≤ℤ◌}
use Rattle.std.proofs.lemmas.Int.{ints}
use Rattle.std.proofs.Math.IntN.{pos-*ℤ-pos, negsuc-*ℤ-negsuc, negsuc-*ℤ-pos, pos-*ℤ-negsuc}
use Rattle.std.proofs.Math.Nat.{mul-le-mul_left}

pub mono_up : (n : ℕ) (a b : ℤ) → a ≤ℤ b → (pos n *ℤ a) ≤ℤ (pos n *ℤ b)
mono_up n (pos a) (pos b) h = let l : n * a ≤ n * b = mul-le-mul_left n (omega (arith, ints)) in rw (pos-*ℤ-pos n a, pos-*ℤ-pos n b) (omega (arith, ints))
mono_up n (pos a) (negsuc b) h = omega (arith, ints)
mono_up n (negsuc a) (pos b) h = rw (pos-*ℤ-negsuc n a, pos-*ℤ-pos n b) (omega (arith, ints))
mono_up n (negsuc a) (negsuc b) h = let l : n * suc b ≤ n * suc a = mul-le-mul_left n (omega (arith, ints)) in rw (pos-*ℤ-negsuc n a, pos-*ℤ-negsuc n b) (omega (arith, ints))

pub mono_down : (n : ℕ) (a b : ℤ) → a ≤ℤ b → (negsuc n *ℤ b) ≤ℤ (negsuc n *ℤ a)
mono_down n (pos a) (pos b) h = let l : suc n * a ≤ suc n * b = mul-le-mul_left (suc n) (omega (arith, ints)) in rw (negsuc-*ℤ-pos n a, negsuc-*ℤ-pos n b) (omega (arith, ints))
mono_down n (pos a) (negsuc b) h = omega (arith, ints)
mono_down n (negsuc a) (pos b) h = rw (negsuc-*ℤ-pos n b, negsuc-*ℤ-negsuc n a) (omega (arith, ints))
mono_down n (negsuc a) (negsuc b) h = let l : suc n * suc b ≤ suc n * suc a = mul-le-mul_left (suc n) (omega (arith, ints)) in rw (negsuc-*ℤ-negsuc n a, negsuc-*ℤ-negsuc n b) (omega (arith, ints))
