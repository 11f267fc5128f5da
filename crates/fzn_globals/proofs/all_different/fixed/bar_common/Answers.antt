use Rattle.fzn_globals.proofs.all_different.fixed.bar_common.Goals as goal
use Rattle.fzn_globals.proofs.all_different.fixed.bar_common.Goals.{then-may_be+in_ok-bar_from, else-may_be}

pub loop-preserved : goal.loop-preserved
loop-preserved c = elim c.if-may_be.branch [
  | then-may_be+in_ok-bar_from w ↦ rw w.found-is w.bar_from.ensures
  | else-may_be w ↦ rw w.found-is c.loop.invariant
]

pub returns-in-None : goal.returns-in-None
returns-in-None c = elim c.if-may_be.branch [
  | then-may_be+in_ok-bar_from w ↦ rw w.found-is w.bar_from.ensures
  | else-may_be w ↦ rw w.found-is c.loop.invariant
]
