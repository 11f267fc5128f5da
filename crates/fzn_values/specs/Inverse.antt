-- Two lists of places that lead back from one another (Global Constraint Catalog, "inverse").
use Rattle.std.specs.Prelude.{◌≡◌, ◌↔◌, ℕ, ◌+◌, ◌<◌, ℤ, pos, List, length, slice_index_or}
use Rattle.std.specs.List.{All}
use Rattle.fzn_values.specs.Entries.{IsIndex, entry_at}

-- all values are places, and the entry at i of the one is j exactly when the entry at j of the other is i
pub record IsInverse (forward backward : List ℤ) : Type 0 where
  pub forward_places : All (IsIndex (length forward)) forward
  pub backward_places : All (IsIndex (length backward)) backward
  pub inverse : (i j : ℤ) → IsIndex (length forward) i → IsIndex (length backward) j → (entry_at forward i ≡ j) ↔ (entry_at backward j ≡ i)

-- the second list leads from each value of the first back to its place
abbrev pub LeadsBack : List ℤ → List ℤ → Type 0
LeadsBack from back = (k : ℕ) → k < length from → entry_at back (slice_index_or from k (pos 0)) ≡ pos (k + 1)
