use Rattle.std.proofs.Common.{◌≢◌, ℕ, ◌<◌, ℤ, ◌≤ℤ◌, get_or}
use Rattle.fzn_levels.proofs.choice.are_below.Given as goal

abbrev pub invariant-loop-k : goal.invariant-loop-k
invariant-loop-k l = (k : ℕ) (none : ℤ) → k < l.k → k ≢ l.except → get_or l.levels k none ≤ℤ get_or l.leasts k none
