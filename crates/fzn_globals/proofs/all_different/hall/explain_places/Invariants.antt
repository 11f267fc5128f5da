use Rattle.std.proofs.Common.{◌≡◌, take}
use Rattle.std.specs.List.{count_by}
use Rattle.fzn_rules.specs.Hall.{lies_within}
use Rattle.fzn_propagator.specs.Clause.{IsFalseClause}
use Rattle.fzn_globals.specs.Apart.{SaysEachWithin}
use Rattle.fzn_globals.proofs.all_different.hall.explain_places.Given as goal

abbrev pub invariant-loop-k : goal.invariant-loop-k
invariant-loop-k l = record {
  count : l.count ≡ count_by (lies_within l.pass.trail.now.sets l.span.low l.span.high) (take l.k l.pass.places.now);
  still : IsFalseClause l.pass.trail.now l.clause;
  within : SaysEachWithin l.pass.trail.now l.clause l.span.low l.span.high l.pass.places.now l.k;
}
