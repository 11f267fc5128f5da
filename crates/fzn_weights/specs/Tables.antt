-- What the rows of a table weigh.
use Rattle.std.specs.Prelude.{ℕ, zero, suc, ◌/◌, ℤ, pos, Bool, true, false, ◌&&◌, if◌then◌else◌, List, [], ◌∷◌, length, drop, slice_index_or, Option, None, Some}
use Rattle.std.specs.Ordering.{int_eq}
use Rattle.fzn_domain.specs.IntSet.{IntSet, contains}
use Rattle.fzn_domain.specs.Narrow.{set_of}
use Rattle.fzn_values.specs.declared.term.Term.{Term}
use Rattle.fzn_values.specs.declared.term.Term.TheVariants.{Constant, Variable}
use Rattle.fzn_meaning.specs.declared.row.TablePart.{TablePart}
use Rattle.fzn_weights.specs.Weights.{both_weights}

-- ---- the part of a table

-- the entry may be the value of the place
abbrev pub may_be : List IntSet → Term → ℤ → Bool
may_be declared (Constant k) entry = int_eq k entry
may_be declared (Variable var) entry = contains (set_of declared var) entry

-- so of each entry of the row at the front
abbrev pub is_declared_row : List IntSet → List Term → List ℤ → Bool
is_declared_row declared [] row = true
is_declared_row declared (place ∷ places) [] = false
is_declared_row declared (place ∷ places) (entry ∷ row) = may_be declared place entry && is_declared_row declared places row

-- 0 for each of so many rows, and none for one that has an entry that its place may not have
abbrev pub blank_weights : List IntSet → List Term → List ℤ → ℕ → List (Option ℤ)
blank_weights declared places rows zero = []
blank_weights declared places rows (suc count) = (if is_declared_row declared places rows then Some (pos 0) else None) ∷ blank_weights declared places (drop (length places) rows) count

abbrev pub row_count : List Term → List ℤ → ℕ
row_count places rows = length rows / length places

abbrev pub blank_table : List IntSet → List Term → List ℤ → TablePart
blank_table declared places rows = record { places = places; rows = rows; weights = blank_weights declared places rows (row_count places rows) }

-- ---- what its rows weigh

-- for each row what was listed for it, and what more it weighs by its entry at the column, counted from 0
abbrev pub weights_raised : (ℤ → Option ℤ) → ℕ → ℕ → List ℤ → List (Option ℤ) → List (Option ℤ)
weights_raised more column width rows [] = []
weights_raised more column width rows (weight ∷ weights) = both_weights weight (more (slice_index_or rows column (pos 0))) ∷ weights_raised more column width (drop width rows) weights

abbrev pub part_raised : (ℤ → Option ℤ) → ℕ → TablePart → TablePart
part_raised more column part = record part { weights = weights_raised more column (length part.places) part.rows part.weights }
