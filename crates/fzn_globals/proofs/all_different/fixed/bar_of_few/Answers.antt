use Rattle.fzn_globals.proofs.all_different.fixed.bar_of_few.Goals as goal
use Rattle.fzn_globals.proofs.all_different.fixed.bar_of_few.Goals.{then-here-pass+in_ok-bar_like, else-here-pass}

pub loop-k-preserved : goal.loop-k-preserved
loop-k-preserved c = elim c.if-here-pass.branch [
  | then-here-pass+in_ok-bar_like w ↦ rw w.found-is w.bar_like.ensures.found
  | else-here-pass w ↦ rw w.found-is c.loop-k.invariant
]
