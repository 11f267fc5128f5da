-- A trail whose sets are left by its entries.
use Rattle.std.specs.Prelude.{◌≡◌, ℕ, ◌<◌, ◌≤◌, List, length, take, slice_index_or}
use Rattle.std.specs.List.{All}
use Rattle.fzn_domain.specs.IntSet.{IntSet}
use Rattle.fzn_domain.specs.Narrow.{IsVariable}
use Rattle.fzn_trail.specs.declared.trail.Entry.{Entry}
use Rattle.fzn_trail.specs.Levels.{Levels, Standing, standing, level_of}
use Rattle.fzn_trail.specs.Replay.{replayed}

-- a saved level stood on the first of these entries, none of which is of a later level
pub record IsCut (declared : List IntSet) (entries : List Entry) (level : ℕ) (stood : Standing) : Type 0 where
  pub within : length stood.entries ≤ length entries
  pub front : stood.entries ≡ take (length stood.entries) entries
  pub left : stood.sets ≡ replayed declared stood.entries
  pub levels : All (λ (entry : Entry). entry.level ≤ level) stood.entries

-- the entries are on variables and leave the sets, and each level stood on the first of them
pub record IsRooted (trail : Levels) : Type 0 where
  pub mark_within : trail.mark ≤ length trail.entries
  pub variables : All (λ (entry : Entry). IsVariable (length trail.declared) entry.lit.var) trail.entries
  pub present : IsCut trail.declared trail.entries (level_of trail) (standing trail)
  pub saved :
      (i : ℕ) (d : Standing) → i < length trail.saved
      → IsCut trail.declared trail.entries i (slice_index_or trail.saved i d)
  pub rising :
      (i j : ℕ) (d : Standing) → i < j → j < length trail.saved
      → length (slice_index_or trail.saved i d).entries ≤ length (slice_index_or trail.saved j d).entries

-- the sets that the first entries left
abbrev pub sets_at : List IntSet → List Entry → ℕ → List IntSet
sets_at declared entries count = replayed declared (take count entries)

-- these are the sets at the mark
pub record IsOnTrail (seen : List IntSet) (trail : Levels) : Type 0 where
  pub rooted : IsRooted trail
  pub reached : seen ≡ sets_at trail.declared trail.entries trail.mark

-- no saved level has entries that were not visited
abbrev pub AreVisited : Levels → Type 0
AreVisited trail = All (λ (stood : Standing). length stood.entries ≤ trail.mark) trail.saved
