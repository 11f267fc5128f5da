use Rattle.std.proofs.Common.{ℕ, ◌<◌, get_or, pos}
use Rattle.std.specs.List.{Contains}
use Rattle.fzn_values.proofs.all_different.has_marked.Given as goal

abbrev pub invariant-loop-place : goal.invariant-loop-place
invariant-loop-place l = (k : ℕ) → k < l.place → Contains l.block (get_or l.rest k (pos 0)) → ⊥
