use Rattle.std.proofs.Common.{◌≡◌, []}
use Rattle.fzn_globals.specs.Apart.{IsApartFrom}
use Rattle.fzn_globals.specs.DifferentPasses.{AreFoundOfDifferent}
use Rattle.fzn_globals.proofs.all_different.pairs.bar_like.Given as goal

abbrev pub invariant-loop-j : goal.invariant-loop-j
invariant-loop-j l = record {
  found : AreFoundOfDifferent l.pass l.found;
  kept : l.found ≡ [] → l.fn.found ≡ [];
  apart : l.found ≡ [] → IsApartFrom l.pass.trail.now.sets l.pass.places.now l.i l.j;
}
