use Rattle.fzn_sum.specs.Explained.{AreFloors}
use Rattle.fzn_sum.proofs.at_most.floors_of.Given as goal

abbrev pub invariant-loop-i : goal.invariant-loop-i
invariant-loop-i l = AreFloors l.trail l.places l.i l.floors
