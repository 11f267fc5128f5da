use Rattle.fzn_reduction.proofs.DeletionLemmas.{AreOfStacked}
use Rattle.fzn_reduction.proofs.idle.numbers_of_stacked.Given as goal

abbrev pub invariant-loop-place : goal.invariant-loop-place
invariant-loop-place l = AreOfStacked l.inferences l.found.items l.place
