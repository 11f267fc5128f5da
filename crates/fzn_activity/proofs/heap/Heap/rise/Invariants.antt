use Rattle.fzn_activity.proofs.heap.Heap.rise.Given as goal

abbrev pub decreases-loop-at : goal.decreases-loop-at
decreases-loop-at l = l.at
