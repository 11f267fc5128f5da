use Rattle.fzn_globals.specs.Apart.{AreMembers}
use Rattle.fzn_globals.proofs.all_different.values_of.Given as goal

abbrev pub invariant-loop-k : goal.invariant-loop-k
invariant-loop-k l = AreMembers l.pass.trail.now.sets l.pass.places.now l.values.items l.k
