use Rattle.std.proofs.Common.{◌≡◌, ℕ, ◌+◌, ◌*◌, ◌^◌, ◌<◌, ◌≤◌, ◌≤ℤ◌, unsigned_abs}
use Rattle.fzn_values.specs.LoadProfile.{load_after}
use Rattle.fzn_values.proofs.load_profile.stays_within.Given as goal

abbrev pub invariant-loop-place : goal.invariant-loop-place
invariant-loop-place l = record {
  value : l.load ≡ load_after l.place l.changes;
  bound : unsigned_abs l.load ≤ l.place * 2 ^ 100;
  within : (k : ℕ) → k < l.place → load_after (k + 1) l.changes ≤ℤ l.capacity;
}
