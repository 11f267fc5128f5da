-- Members of a set (MiniZinc Handbook, "FlatZinc builtins": set_in).
use Rattle.std.specs.Prelude.{◌≡◌, true, ℤ}
use Rattle.fzn_domain.specs.IntSet.{IntSet, contains}

-- the number is in the set
abbrev pub IsInSet : ℤ → IntSet → Type 0
IsInSet x set = contains set x ≡ true
