use Rattle.std.proofs.Common.{length, ◌≤◌}
use Rattle.fzn_clauses.specs.Kept.{Sweeps}
use Rattle.fzn_clauses.specs.Lists.{list_at}
use Rattle.fzn_clauses.proofs.clauses.Clauses.sweep_list.Given as goal

abbrev pub invariant-loop-j : goal.invariant-loop-j
invariant-loop-j l = record {
  sweeps : Sweeps l.initial.self l.self;
  within : l.j ≤ length (list_at l.self.lists l.key);
}

abbrev pub decreases-loop-j : goal.decreases-loop-j
decreases-loop-j l = l.j
