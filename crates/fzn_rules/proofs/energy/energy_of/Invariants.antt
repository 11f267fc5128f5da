use Rattle.std.proofs.Common.{◌≡◌, ◌*◌, ◌≤◌, take, unsigned_abs}
use Rattle.fzn_rules.specs.Tasks.{task_terms, sum_over}
use Rattle.fzn_rules.specs.Energy.{least_energy}
use Rattle.fzn_rules.proofs.energy.energy_of.Given as goal

abbrev pub invariant-loop-k : goal.invariant-loop-k
invariant-loop-k l = record {
  so_far : l.energy ≡ sum_over (least_energy l.sets.present l.from l.until) (take l.k (task_terms l.starts l.durations l.uses));
  bounded : unsigned_abs l.energy ≤ l.k * 1000000000000000000;
}
