use Rattle.fzn_globals.proofs.all_different.fixed.bar_open.Goals as goal
use Rattle.fzn_globals.proofs.all_different.fixed.bar_open.Goals.{then-has_other+in_ok-bar_common, else-has_other}

pub loop-j-preserved : goal.loop-j-preserved
loop-j-preserved c = elim c.if-has_other.branch [
  | then-has_other+in_ok-bar_common w ↦ rw w.found-is w.bar_common.ensures
  | else-has_other w ↦ rw w.found-is c.loop-j.invariant
]
