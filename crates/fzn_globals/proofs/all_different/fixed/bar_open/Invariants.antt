use Rattle.fzn_globals.specs.DifferentPasses.{AreFoundOfDifferent}
use Rattle.fzn_globals.proofs.all_different.fixed.bar_open.Given as goal

abbrev pub invariant-loop-j : goal.invariant-loop-j
invariant-loop-j l = AreFoundOfDifferent l.pass l.found
