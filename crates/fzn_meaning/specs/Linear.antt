-- Sums compared with a number (MiniZinc Handbook, "FlatZinc builtins": int_lin_eq, int_lin_le, int_lin_ne, bool_lin_eq, bool_lin_le).
use Rattle.std.specs.Prelude.{◌≡◌, ◌≢◌, ℤ, ◌≤ℤ◌}
use Rattle.fzn_meaning.specs.declared.relation.Comparison.{Comparison}
use Rattle.fzn_meaning.specs.declared.relation.Comparison.TheVariants.{AtMost, Equal, NotEqual}

-- the sum is at most the bound, equal to it, not equal to it
abbrev pub IsLinear : Comparison → ℤ → ℤ → Type 0
IsLinear AtMost sum bound = sum ≤ℤ bound
IsLinear Equal sum bound = sum ≡ bound
IsLinear NotEqual sum bound = sum ≢ bound
