use Rattle.fzn_sum.specs.Pinned.{ArePinned}
use Rattle.fzn_sum.proofs.not_equal.pins.Given as goal

abbrev pub invariant-loop-i : goal.invariant-loop-i
invariant-loop-i l = ArePinned l.trail l.places l.i l.except l.clause
