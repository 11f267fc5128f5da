-- One cycle through all places (Global Constraint Catalog, "circuit").
use Rattle.std.specs.Prelude.{◌≡◌, ℕ, zero, suc, ◌<◌, ◌≤◌, ℤ, pos, List, length}
use Rattle.std.specs.List.{All}
use Rattle.fzn_values.specs.Entries.{IsIndex, entry_at}

-- the place that so many steps from the start reach, each to the entry of the place before it
abbrev pub reached_from : List ℤ → ℤ → ℕ → ℤ
reached_from successors start zero = start
reached_from successors start (suc steps) = entry_at successors (reached_from successors start steps)

-- the place that so many steps from place 1 reach
abbrev pub reached : List ℤ → ℕ → ℤ
reached successors steps = reached_from successors (pos 1) steps

-- The successors are places; steps 1 to n from place 1 reach every place, and step n reaches place 1. With no place this holds.
pub record IsCircuit (successors : List ℤ) : Type 0 where
  pub places : All (IsIndex (length successors)) successors
  pub all_reached : (place : ℤ) → IsIndex (length successors) place → (steps : ℕ) × (1 ≤ steps) × (steps ≤ length successors) × (reached successors steps ≡ place)
  pub closes : reached successors (length successors) ≡ pos 1

-- the way from place 1 comes back there with the last step, and not before
pub record ReturnsLast (successors : List ℤ) : Type 0 where
  pub last : reached successors (length successors) ≡ pos 1
  pub not_before : (steps : ℕ) → 1 ≤ steps → steps < length successors → reached successors steps ≡ pos 1 → ⊥
