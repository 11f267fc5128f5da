-- The clauses of the inferences that were written, each with the number of its step.
use Rattle.std.specs.Prelude.{◌≡◌, ℕ, ◌<◌, List, [], length, slice_index_or}
use Rattle.fzn_domain.specs.declared.literal.Lit.{Lit}
use Rattle.fzn_reduction.specs.declared.written.Given.{Given}

-- the one at this place, and past the end any
abbrev pub given_at : List Given → ℕ → Given
given_at written place = slice_index_or written place (record { clause = []; number = 0 })

-- the one at the place gives this clause
abbrev pub IsGivenAt : List Given → ℕ → List Lit → Type 0
IsGivenAt written place clause = (place < length written) × ((given_at written place).clause ≡ clause)
