-- The claims by which a task uses so much at a time.
use Rattle.std.specs.Prelude.{◌⊎◌, ℕ, ℤ, pos, negsuc, ◌+ℤ◌, ◌-ℤ◌, ◌≤ℤ◌, List, [], ◌∷◌, slice_index_or}
use Rattle.std.specs.Int.{int_max}
use Rattle.fzn_domain.specs.declared.literal.Op.TheVariants.{AtMost, AtLeast}
use Rattle.fzn_domain.specs.IntSet.{IntSet}
use Rattle.fzn_values.specs.declared.term.Term.{Term}
use Rattle.fzn_terms.specs.Denied.{that, IsDenied}
use Rattle.fzn_terms.specs.declared.claim.Claim.{Claim}
use Rattle.fzn_cumulative.specs.declared.tasks.Tasks.{Tasks}
use Rattle.fzn_cumulative.specs.Loads.{start_at, duration_at, uses_at, HasRoomBeside}

-- that a task of these terms starts at these times at the latest and at the earliest, lasts so long and uses so much at least
abbrev pub task_claims : Term → Term → Term → ℤ → ℤ → ℤ → ℤ → List Claim
task_claims start duration uses latest earliest shortest least =
    that start AtMost latest ∷ that start AtLeast earliest ∷ that duration AtLeast shortest ∷ that uses AtLeast least ∷ []

-- that the task at an index runs at the time, as it ends after it where it lasts so long, and uses so much
abbrev pub use_claims : Tasks → ℕ → ℤ → ℤ → ℤ → List Claim
use_claims tasks k time shortest least =
    task_claims (start_at tasks k) (duration_at tasks k) (uses_at tasks k) time ((time -ℤ shortest) +ℤ pos 1) shortest least

-- the least durations with which a task that starts within the limits ends after one of the times; no task uses more
abbrev pub IsLeast : ℤ → Type 0
IsLeast least = (negsuc 1999999998 ≤ℤ least) × (least ≤ℤ pos 3000000001)

-- there is room for so much, or the claim at an index is true of no value
abbrev pub IsNotPushed : List IntSet → ℤ → ℕ → ℤ → ℤ → ℕ → Tasks → Type 0
IsNotPushed sets time k shortest least forced tasks =
    HasRoomBeside sets time k (int_max (pos 0) least) tasks
    ⊎ ((default : Claim) → IsDenied sets (slice_index_or (use_claims tasks k time shortest least) forced default))
