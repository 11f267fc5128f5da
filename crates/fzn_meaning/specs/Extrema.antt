-- The least and the greatest of a list (MiniZinc Handbook, "FlatZinc builtins": int_min, int_max, array_int_minimum, array_int_maximum).
use Rattle.std.specs.Prelude.{ℤ, ◌≤ℤ◌, List}
use Rattle.std.specs.List.{All, Contains}
use Rattle.fzn_meaning.specs.declared.extremum.Extreme.{Extreme}
use Rattle.fzn_meaning.specs.declared.extremum.Extreme.TheVariants.{Least, Greatest}

-- the entry is not less than the number, or not greater
abbrev pub Bounds : Extreme → ℤ → ℤ → Type 0
Bounds Least x entry = x ≤ℤ entry
Bounds Greatest x entry = entry ≤ℤ x

-- one of the entries, and no entry is less, or none is greater
abbrev pub IsExtremum : Extreme → List ℤ → ℤ → Type 0
IsExtremum extreme entries x = Contains entries x × All (Bounds extreme x) entries
