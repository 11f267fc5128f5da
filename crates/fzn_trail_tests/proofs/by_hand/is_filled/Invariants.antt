use Rattle.std.proofs.Common.{ℕ, ◌<◌, get_or}
use Rattle.fzn_domain.specs.IntSet.{size, no_values}
use Rattle.fzn_trail_tests.proofs.by_hand.is_filled.Given as goal

-- the sets before this one have values
abbrev pub invariant-loop-k : goal.invariant-loop-k
invariant-loop-k l = (k : ℕ) → k < l.k → 0 < size (get_or l.trail.sets k no_values)
