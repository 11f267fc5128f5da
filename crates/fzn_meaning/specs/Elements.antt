-- The entry at an index (MiniZinc Handbook, "FlatZinc builtins": array_int_element, array_var_int_element, array_bool_element,
-- array_var_bool_element).
use Rattle.std.specs.Prelude.{◌≡◌, ℤ, List, length}
use Rattle.fzn_values.specs.Entries.{IsIndex, entry_at}

-- an index of the list, and the entry there is the value
abbrev pub IsElement : ℤ → List ℤ → ℤ → Type 0
IsElement index entries value = IsIndex (length entries) index × (entry_at entries index ≡ value)
