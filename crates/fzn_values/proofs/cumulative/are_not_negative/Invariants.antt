use Rattle.std.proofs.Common.{ℕ, ◌<◌, ◌≤ℤ◌, get_or, pos}
use Rattle.fzn_values.proofs.cumulative.are_not_negative.Given as goal

abbrev pub invariant-loop-place : goal.invariant-loop-place
invariant-loop-place l = (k : ℕ) → k < l.place → pos 0 ≤ℤ get_or l.values k (pos 0)
