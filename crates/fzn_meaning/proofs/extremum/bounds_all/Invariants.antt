use Rattle.std.proofs.Common.{ℕ, ◌<◌, pos, get_or}
use Rattle.fzn_meaning.specs.Extrema.{Bounds}
use Rattle.fzn_meaning.proofs.extremum.bounds_all.Given as goal

abbrev pub invariant-loop-place : goal.invariant-loop-place
invariant-loop-place l = (k : ℕ) → k < l.place → Bounds l.extreme l.value (get_or l.entries k (pos 0))
