-- Rows of a table (Global Constraint Catalog, "in_relation").
use Rattle.std.specs.Prelude.{◌≡◌, ℕ, ◌+◌, ◌*◌, ◌≤◌, ℤ, List, length, take, drop}

-- row r, counted from 0, of rows of this width that stand one after another
abbrev pub row_at : ℕ → List ℤ → ℕ → List ℤ
row_at width rows r = take width (drop (r * width) rows)

-- some whole row equals the values
abbrev pub IsTable : List ℤ → List ℤ → Type 0
IsTable xs rows = (r : ℕ) × (r * length xs + length xs ≤ length rows) × (row_at (length xs) rows r ≡ xs)
