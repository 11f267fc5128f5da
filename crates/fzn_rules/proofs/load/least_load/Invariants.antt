use Rattle.std.proofs.Common.{◌≡◌, ◌*◌, ◌≤◌, take, unsigned_abs}
use Rattle.fzn_rules.specs.Tasks.{task_terms, sum_over}
use Rattle.fzn_rules.specs.Load.{least_use_at}
use Rattle.fzn_rules.proofs.load.least_load.Given as goal

abbrev pub invariant-loop-k : goal.invariant-loop-k
invariant-loop-k l = record {
  so_far : l.load ≡ sum_over (least_use_at l.sets.present l.time) (take l.k (task_terms l.starts l.durations l.uses));
  bounded : unsigned_abs l.load ≤ l.k * 1000000000;
}
