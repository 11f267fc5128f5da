use Rattle.fzn_globals.proofs.DifferentLemmas.{AreRising}
use Rattle.fzn_globals.proofs.all_different.are_rising.Given as goal

abbrev pub invariant-loop-k : goal.invariant-loop-k
invariant-loop-k l = AreRising l.values l.k
