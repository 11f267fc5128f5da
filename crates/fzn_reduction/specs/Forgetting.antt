-- Which held clauses may be forgotten, and what is held then.
use Rattle.std.specs.Prelude.{◌≡◌, ◌≢◌, ◌<◌, Bool, true, false, List, length, slice_index_or}
use Rattle.std.specs.List.{All}
use Rattle.fzn_trail.specs.declared.trail.ClauseId.{ClauseId}
use Rattle.fzn_trail.specs.declared.trail.Entry.{Entry}
use Rattle.fzn_trail.specs.declared.trail.Reason.{Reason}
use Rattle.fzn_trail.specs.declared.trail.Antecedent.TheVariants.{Clause, Inference}
use Rattle.fzn_trail.specs.declared.trail.Reason.TheVariants.{Decision, Implied}
use Rattle.fzn_trail.specs.Levels.{Levels}
use Rattle.fzn_clauses.specs.declared.clauses.Clauses.{Clauses}
use Rattle.fzn_clauses.specs.Held.{IsHeld, at_number}
use Rattle.fzn_clauses.specs.Kept.{KeepsWatching}
use Rattle.fzn_clauses.specs.Watching.{held_by}

-- a held clause that is a reason has its flag, by its number
abbrev pub IsFlagged : List Bool → Reason → Type 0
IsFlagged flags Decision = Unit {0}
IsFlagged flags (Implied (Clause id)) = id.0 < length flags → slice_index_or flags id.0 false ≡ true
IsFlagged flags (Implied (Inference place)) = Unit {0}

-- so has each on which an entry of the trail rests
abbrev pub AreFlagged : List Bool → Levels → Type 0
AreFlagged flags trail = All (λ (entry : Entry). IsFlagged flags entry.reason) trail.entries

-- the held clause of this number is the cut of a solution, by these flags
abbrev pub is_cut : List Bool → ClauseId → Bool
is_cut flags id = slice_index_or flags id.0 false

-- the clause of this number is the reason of no entry of the trail, and not the cut of a solution
pub record IsIdle (trail : Levels) (cuts : List Bool) (id : ClauseId) : Type 0 where
  pub no_reason : All (λ (entry : Entry). entry.reason ≢ Implied (Clause id)) trail.entries
  pub no_cut : is_cut cuts id ≡ false

-- what is held now was held before, under the same number, and what is held no more was idle
pub record HasForgotten (trail : Levels) (cuts : List Bool) (old new : Clauses) : Type 0 where
  pub size : length (held_by new) ≡ length (held_by old)
  pub left : (id : ClauseId) → IsHeld (held_by new) id → at_number (held_by new) id ≡ at_number (held_by old) id
  pub gone : (id : ClauseId) → IsHeld (held_by old) id → (IsHeld (held_by new) id → ⊥) → IsIdle trail cuts id
  pub watching : KeepsWatching old new
