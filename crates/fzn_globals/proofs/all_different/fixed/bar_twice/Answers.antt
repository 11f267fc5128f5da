use Rattle.fzn_globals.proofs.all_different.fixed.bar_twice.Goals as goal
use Rattle.fzn_globals.proofs.all_different.fixed.bar_twice.Goals.{then-before-here+in_ok-bar_from, else-before-here}

pub loop-k-preserved : goal.loop-k-preserved
loop-k-preserved c = elim c.if-before-here.branch [
  | then-before-here+in_ok-bar_from w ↦ rw w.found-is w.bar_from.ensures
  | else-before-here w ↦ rw w.found-is c.loop-k.invariant
]
