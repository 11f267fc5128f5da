-- The load at times that stand in order, by how it changes from one to the next.
use Rattle.std.specs.Prelude.{◌≡◌, ℕ, zero, suc, ◌+◌, ◌<◌, ◌≤◌, if◌then◌else◌, ℤ, pos, ◌+ℤ◌, ◌≤ℤ◌, int_le, FitsSigned, List, [], ◌∷◌, length, slice_index_or, unsigned_abs}
use Rattle.std.specs.Int.{w64}
use Rattle.std.specs.List.{All, AllPairs}
use Rattle.fzn_list.specs.Limits.{longest}
use Rattle.fzn_values.specs.Cumulative.{Task, load_at, use_at, NoneNegative}

-- as many durations and uses as starts, where each task ends at its start or later
pub record AreTasks (starts durations uses : List ℤ) : Type 0 where
  pub has_durations : length durations ≡ length starts
  pub has_uses : length uses ≡ length starts
  pub short : length starts ≤ longest
  pub not_negative : NoneNegative durations

-- numbers of 64 bits, none less than one that stands before it
pub record AreInOrder (times : List ℤ) : Type 0 where
  pub order : AllPairs ◌≤ℤ◌ times
  pub fits : All (FitsSigned w64) times

-- what so many changes sum to
abbrev pub load_after : ℕ → List ℤ → ℤ
load_after n [] = pos 0
load_after zero (x ∷ xs) = pos 0
load_after (suc n) (x ∷ xs) = x +ℤ load_after n xs

-- the changes up to the place of each time sum to the load there
abbrev pub IsProfile : List ℤ → List Task → List ℤ → Type 0
IsProfile times chosen changes = (k : ℕ) → k < length times → load_after (k + 1) changes ≡ load_at (slice_index_or times k (pos 0)) chosen

-- the new changes make the load differ by this change, at each time from this one on
abbrev pub IsChangedFrom : ℤ → ℤ → List ℤ → List ℤ → List ℤ → Type 0
IsChangedFrom time change times old new =
    (k : ℕ) → k < length times
    → load_after (k + 1) new ≡ load_after (k + 1) old +ℤ (if int_le time (slice_index_or times k (pos 0)) then change else pos 0)

-- the new changes make the load differ by what the task uses, at each time
abbrev pub IsUsedBy : Task → List ℤ → List ℤ → List ℤ → Type 0
IsUsedBy task times old new =
    (k : ℕ) → k < length times → load_after (k + 1) new ≡ load_after (k + 1) old +ℤ use_at (slice_index_or times k (pos 0)) task

-- each change is at most so great
abbrev pub AreWithin : ℕ → List ℤ → Type 0
AreWithin bound changes = All (λ x. unsigned_abs x ≤ bound) changes

-- changes that each grow by at most so much
abbrev pub GrowBy : ℕ → List ℤ → List ℤ → Type 0
GrowBy more old new = (bound : ℕ) → AreWithin bound old → AreWithin (bound + more) new
