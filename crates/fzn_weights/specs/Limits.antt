-- The limits of the numbers of a row.
use Rattle.std.specs.Prelude.{ℕ, ℤ, Bool, nat_le, unsigned_abs, true, Option}
use Rattle.std.specs.Option.{option_map_or}

-- the number is within this limit
abbrev pub is_number_within : ℕ → ℤ → Bool
is_number_within limit number = nat_le (unsigned_abs number) limit

-- from -10^18 to 10^18
abbrev pub is_row_number : ℤ → Bool
is_row_number number = is_number_within 1000000000000000000 number

-- from -10^12 to 10^12
abbrev pub is_coefficient : ℤ → Bool
is_coefficient number = is_number_within 1000000000000 number

-- so of the weight of an entry, where it has one
abbrev pub is_entry_within : Option ℤ → Bool
is_entry_within entry = option_map_or is_row_number entry true
