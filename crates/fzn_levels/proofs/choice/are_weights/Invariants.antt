use Rattle.std.proofs.Common.{ℕ, ◌<◌, ℤ, get_or}
use Rattle.fzn_levels.specs.Levels.{IsWeight}
use Rattle.fzn_levels.proofs.choice.are_weights.Given as goal

abbrev pub invariant-loop-level : goal.invariant-loop-level
invariant-loop-level l = (k : ℕ) (none : ℤ) → k < l.level-index → IsWeight (get_or l.levels k none)
