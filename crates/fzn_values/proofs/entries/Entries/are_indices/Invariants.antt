use Rattle.std.proofs.Common.{ℕ, ◌<◌, pos, get_or}
use Rattle.fzn_values.specs.Entries.{IsIndex}
use Rattle.fzn_values.proofs.entries.Entries.are_indices.Given as goal

abbrev pub invariant-loop-place : goal.invariant-loop-place
invariant-loop-place l = (k : ℕ) → k < l.place → IsIndex l.count (get_or l.self k (pos 0))
