use Rattle.std.proofs.Common.{◌*◌, ◌≤ℤ◌, take}
use Rattle.std.specs.List.{All}
use Rattle.fzn_values.specs.Cumulative.{tasks, load_at}
use Rattle.fzn_values.proofs.cumulative.is_kept_at_starts.Given as goal

abbrev pub invariant-loop-block : goal.invariant-loop-block
invariant-loop-block l = All (λ t. load_at t (tasks l.starts l.durations l.uses) ≤ℤ l.capacity) (take (l.block * 8192) l.starts)
