use Rattle.std.proofs.Common.{ℕ, ◌<◌, ◌≤◌, get_or}
use Rattle.fzn_domain.specs.IntSet.{size, no_values}
use Rattle.fzn_state.proofs.settling.has_no_more_values.Given as goal

-- none of those so far has more values
abbrev pub invariant-loop-i : goal.invariant-loop-i
invariant-loop-i l = (k : ℕ) → k < l.i → size (get_or l.one.sets k no_values) ≤ size (get_or l.other.sets k no_values)
