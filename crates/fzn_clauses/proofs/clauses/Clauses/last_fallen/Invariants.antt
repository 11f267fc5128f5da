use Rattle.std.proofs.Common.{◌≤◌}
use Rattle.fzn_clauses.specs.Keys.{key_at}
use Rattle.fzn_clauses.specs.Kept.{ArePassed}
use Rattle.fzn_clauses.specs.Watching.{set_at_mark}
use Rattle.fzn_clauses.specs.Lists.{list_at}
use Rattle.fzn_clauses.proofs.clauses.Clauses.last_fallen.Given as goal

abbrev pub invariant-loop-j : goal.invariant-loop-j
invariant-loop-j l = record {
  within : l.j ≤ l.end;
  passed : ArePassed (set_at_mark l.trail) l.entry l.self.arena l.trail.sets (key_at l.entry.var l.place) (list_at l.self.lists (key_at l.entry.var l.place)) l.j l.end;
}

abbrev pub decreases-loop-j : goal.decreases-loop-j
decreases-loop-j l = l.j
