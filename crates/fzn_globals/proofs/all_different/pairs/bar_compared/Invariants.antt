use Rattle.std.proofs.Common.{◌≡◌, []}
use Rattle.fzn_globals.specs.Apart.{AreEachApart}
use Rattle.fzn_globals.specs.DifferentPasses.{AreFoundOfDifferent}
use Rattle.fzn_globals.proofs.all_different.pairs.bar_compared.Given as goal

abbrev pub invariant-loop-i : goal.invariant-loop-i
invariant-loop-i l = record {
  found : AreFoundOfDifferent l.pass l.found;
  apart : l.found ≡ [] → AreEachApart l.pass.trail.now.sets l.pass.places.now l.i;
}
