-- What the part of a variable weighs at the values of another one that decides its own.
use Rattle.std.specs.Prelude.{ℕ, zero, suc, ◌+◌, ℤ, pos, ◌+ℤ◌, ◌-ℤ◌, Bool, ◌&&◌, if◌then◌else◌, nat_le, unsigned_abs, List, [], ◌∷◌, Option, None, option_and_then}
use Rattle.fzn_domain.specs.IntSet.{IntSet, contains, size, least, greatest}
use Rattle.fzn_meaning.specs.declared.row.Listed.{Listed}
use Rattle.fzn_meaning.specs.declared.row.VariablePart.{VariablePart}
use Rattle.fzn_meaning.specs.Separable.{listed_at, weight_at}
use Rattle.fzn_weights.specs.Weights.{both_weights}

-- what the part weighs at the number, where that is in the set
abbrev pub weight_within : IntSet → VariablePart → ℤ → Option ℤ
weight_within set part number = if contains set number then weight_at part number else None

-- what the part, whose variable has this set, weighs where that is what is decided at this value
abbrev pub weight_where : IntSet → VariablePart → (ℤ → Option ℤ) → ℤ → Option ℤ
weight_where set part decided value = option_and_then (weight_within set part) (decided value)

-- for each of so many values from low on: what was listed for it, and what more it weighs
abbrev pub moved_from : (ℤ → Option ℤ) → ℤ → ℕ → Option Listed → List (Option ℤ)
moved_from more low zero old = []
moved_from more low (suc count) old = both_weights (listed_at old low) (more low) ∷ moved_from more (low +ℤ pos 1) count old

-- how many numbers there are from the least to the greatest
abbrev pub span : IntSet → ℕ
span set = unsigned_abs (greatest set -ℤ least set) + 1

-- some number, of which the least lies from -10^9 to 10^9, and at most 65,536 from that to the greatest
abbrev pub is_narrow : IntSet → Bool
is_narrow set = nat_le 1 (size set) && nat_le (unsigned_abs (least set)) 1000000000 && nat_le (span set) 65536
