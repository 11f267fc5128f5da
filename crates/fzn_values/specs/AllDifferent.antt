-- No two alike (Global Constraint Catalog, "alldifferent").
use Rattle.std.specs.Prelude.{◌≡◌, ◌≢◌, ℕ, ◌%◌, ◌<◌, Bool, true, false, ℤ, pos, List, length, slice_index_or, unsigned_abs}
use Rattle.std.specs.List.{AllPairs, Contains}

-- no two positions have one value
abbrev pub IsAllDifferent : List ℤ → Type 0
IsAllDifferent xs = AllPairs (λ x y. x ≢ y) xs

-- ---- one part of a list against the rest

-- none of the first n values stands again behind its place
abbrev pub FrontDiffers : ℕ → List ℤ → Type 0
FrontDiffers n xs = (i j : ℕ) (d : ℤ) → i < n → i < j → j < length xs → slice_index_or xs i d ≢ slice_index_or xs j d

-- some value stands in both lists
abbrev pub ShareValue : List ℤ → List ℤ → Type 0
ShareValue xs ys = (k : ℕ) × (k < length ys) × Contains xs (slice_index_or ys k (pos 0))

-- the mark of each value is set
abbrev pub AreMarked : List Bool → List ℤ → Type 0
AreMarked marks xs = (k : ℕ) → k < length xs → slice_index_or marks (unsigned_abs (slice_index_or xs k (pos 0)) % 16384) false ≡ true
