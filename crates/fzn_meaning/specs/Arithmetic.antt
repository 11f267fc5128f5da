-- Arithmetic (MiniZinc Handbook, "FlatZinc builtins": int_plus, int_times, int_div, int_mod, int_abs).
use Rattle.std.specs.Prelude.{◌≡◌, ◌≢◌, ℤ, pos, ◌+ℤ◌, ◌*ℤ◌, int_div, int_rem, unsigned_abs}
use Rattle.fzn_meaning.specs.declared.arithmetic.Operation.{Operation}
use Rattle.fzn_meaning.specs.declared.arithmetic.Operation.TheVariants.{Plus, Times, Quotient, Remainder}

-- c is the sum, the product, the quotient rounded toward zero, what that quotient leaves; a divisor is not 0
abbrev pub IsArithmetic : Operation → ℤ → ℤ → ℤ → Type 0
IsArithmetic Plus a b c = a +ℤ b ≡ c
IsArithmetic Times a b c = a *ℤ b ≡ c
IsArithmetic Quotient a b c = (b ≢ pos 0) × (int_div a b ≡ c)
IsArithmetic Remainder a b c = (b ≢ pos 0) × (int_rem a b ≡ c)

-- b is the absolute value of a
abbrev pub IsIntAbs : ℤ → ℤ → Type 0
IsIntAbs a b = pos (unsigned_abs a) ≡ b
