-- Variables with one value, and the state of a search.
use Rattle.std.specs.Prelude.{◌≡◌, ℕ, ◌+◌, ◌<◌, ℤ, List, length, slice_index_or}
use Rattle.fzn_domain.specs.IntSet.{IntSet, size, no_values}
use Rattle.fzn_domain.specs.Narrow.{IsWithin}
pub use Rattle.fzn_domain.specs.Narrow.{AllFixed}
pub use Rattle.fzn_activity.specs.Splits.{Splits}

-- a search over this many variables, and the decisions that it has made
pub record Searching : Type 0 where
  pub vars : ℕ
  pub nodes : ℕ

-- one more decision
abbrev pub counted : Searching → Searching
counted search = record search { nodes = search.nodes + 1 }

-- some set has more than one value
abbrev pub HasMany : List IntSet → Type 0
HasMany sets = (k : ℕ) × (k < length sets) × (1 < size (slice_index_or sets k no_values))

-- no other values lie in the sets
abbrev pub IsOnlyWithin : List IntSet → List ℤ → Type 0
IsOnlyWithin sets values = (other : List ℤ) → IsWithin sets other → other ≡ values
