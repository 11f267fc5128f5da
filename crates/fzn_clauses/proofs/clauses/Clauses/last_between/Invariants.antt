use Rattle.std.proofs.Common.{◌≤◌}
use Rattle.fzn_clauses.specs.Keys.{key_at}
use Rattle.fzn_clauses.specs.Kept.{AreOutside}
use Rattle.fzn_clauses.specs.Lists.{list_at}
use Rattle.fzn_clauses.proofs.clauses.Clauses.last_between.Given as goal

abbrev pub invariant-loop-j : goal.invariant-loop-j
invariant-loop-j l = record {
  within : l.j ≤ l.end;
  outside : AreOutside l.fallen l.self.arena l.trail.sets (list_at l.self.lists (key_at l.var l.place)) l.j l.end;
}

abbrev pub decreases-loop-j : goal.decreases-loop-j
decreases-loop-j l = l.j
