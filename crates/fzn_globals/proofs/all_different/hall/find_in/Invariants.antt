use Rattle.std.proofs.Common.{length}
use Rattle.std.specs.List.{All}
use Rattle.fzn_globals.specs.DifferentPasses.{IsJustifiedByHall, AreFoundOfDifferent}
use Rattle.fzn_globals.proofs.all_different.hall.find_in.Given as goal

abbrev pub invariant-loop-clause : goal.invariant-loop-clause
invariant-loop-clause l = record {
  found : AreFoundOfDifferent l.pass l.found;
  left : All (IsJustifiedByHall l.pass l.span.low l.span.high) l.clauses.items;
}

abbrev pub decreases-loop-clause : goal.decreases-loop-clause
decreases-loop-clause l = length l.clauses.items
