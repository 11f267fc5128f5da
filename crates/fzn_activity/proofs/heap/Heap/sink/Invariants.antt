use Rattle.std.proofs.Common.{◌-◌}
use Rattle.fzn_activity.proofs.heap.Heap.sink.Given as goal

abbrev pub decreases-loop-at : goal.decreases-loop-at
decreases-loop-at l = l.count - l.at
