-- Lists as the constraints number them, from 1.
use Rattle.std.specs.Prelude.{ℕ, ◌-◌, ℤ, pos, negsuc, ◌≤ℤ◌, List, slice_index_or}

-- an index of a list of this many entries
abbrev pub IsIndex : ℕ → ℤ → Type 0
IsIndex count index = (pos 1 ≤ℤ index) × (index ≤ℤ pos count)

-- the entry at an index
abbrev pub entry_at : List ℤ → ℤ → ℤ
entry_at entries (pos index) = slice_index_or entries (index - 1) (pos 0)
entry_at entries (negsuc index) = pos 0
