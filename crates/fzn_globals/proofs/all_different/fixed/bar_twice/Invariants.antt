use Rattle.fzn_globals.specs.DifferentPasses.{AreFoundOfDifferent}
use Rattle.fzn_globals.proofs.all_different.fixed.bar_twice.Given as goal

abbrev pub invariant-loop-k : goal.invariant-loop-k
invariant-loop-k l = AreFoundOfDifferent l.pass l.found
