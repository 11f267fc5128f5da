use Rattle.fzn_globals.specs.DifferentPasses.{AreFoundOfDifferent}
use Rattle.fzn_globals.proofs.all_different.fixed.bar_common.Given as goal

abbrev pub invariant-loop : goal.invariant-loop
invariant-loop l = AreFoundOfDifferent l.pass l.found
