-- Marks at numbers.
use Rattle.std.specs.Prelude.{◌≡◌, ◌⊎◌, ◌↔◌, ℕ, ◌<◌, Bool, true, false, List, length, slice_index_or, Contains}

-- whether there is a mark at the number
abbrev pub mark_at : List Bool → ℕ → Bool
mark_at marks number = slice_index_or marks number false

abbrev pub IsMarked : List Bool → ℕ → Type 0
IsMarked marks number = mark_at marks number ≡ true

-- as far as the marks go, they stand at the numbers of which this holds
abbrev pub AreMarksOf : (ℕ → Type 0) → List Bool → Type 0
AreMarksOf Holds marks = (number : ℕ) → number < length marks → IsMarked marks number ↔ Holds number

-- these numbers are marked too
pub record HasMore (old new : List Bool) (numbers : List ℕ) : Type 0 where
  pub same_len : length new ≡ length old
  pub marks : (number : ℕ) → number < length old → IsMarked new number ↔ (IsMarked old number ⊎ Contains numbers number)
