-- Which steps may be deleted: those of no held clause and of no inference that stands.
use Rattle.std.specs.Prelude.{◌≡◌, ◌⊎◌, ℕ, ◌<◌, List, length, Some, slice_index_or}
use Rattle.std.specs.List.{All, Contains}
use Rattle.fzn_cert.specs.Spelling.{IdsRise}
use Rattle.fzn_propagator.specs.declared.inferences.Inferred.{Inferred}
use Rattle.fzn_propagator.specs.Inferences.{IsStacked, inference_at}
use Rattle.fzn_reduction.specs.declared.written.Given.{Given}
use Rattle.fzn_trail.specs.declared.trail.ClauseId.{ClauseId}
use Rattle.fzn_clauses.specs.Held.{Held, IsHeld}

-- the step of this number gives a held clause, where these are the numbers of the clauses' steps
abbrev pub IsOfHeld : Held → List ℕ → ℕ → Type 0
IsOfHeld held numbers n = (id : ClauseId) × IsHeld held id × (slice_index_or numbers id.0 0 ≡ n)

-- an inference that stands was written as this step
abbrev pub IsOfStacked : List Inferred → ℕ → Type 0
IsOfStacked stack n = (place : ℕ) × IsStacked stack place × ((inference_at stack place).number ≡ Some n)

-- what is held or stands may be cited by the step's number
abbrev pub IsInUse : Held → List ℕ → List Inferred → ℕ → Type 0
IsInUse held numbers stack n = IsOfHeld held numbers n ⊎ IsOfStacked stack n

-- these steps are deleted, some at least, of which nothing is held or stands, and those that are left are all that are in use
pub record IsDeletion (held : Held) (numbers : List ℕ) (stack : List Inferred) (alive ids left : List ℕ) : Type 0 where
  pub some : 0 < length ids
  pub rise : IdsRise ids
  pub among : All (Contains alive) ids
  pub idle : (n : ℕ) → IsInUse held numbers stack n → Contains ids n → ⊥
  pub in_use : All (IsInUse held numbers stack) left
  pub all : (n : ℕ) → IsInUse held numbers stack n → Contains left n

-- of the clauses of written inferences those are left whose steps are in use
pub record IsThinned (held : Held) (numbers : List ℕ) (stack : List Inferred) (old new : List Given) : Type 0 where
  pub in_use : All (λ (it : Given). IsInUse held numbers stack it.number) new
  pub among : All (Contains old) new
