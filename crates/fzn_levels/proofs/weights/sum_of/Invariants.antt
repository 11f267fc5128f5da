use Rattle.std.proofs.Common.{◌≡◌, ◌*◌, ◌≤◌, take, unsigned_abs}
use Rattle.fzn_levels.specs.Levels.{sum_of}
use Rattle.fzn_levels.proofs.weights.sum_of.Given as goal

abbrev pub invariant-loop-weight : goal.invariant-loop-weight
invariant-loop-weight l = record {
  so_far : l.total ≡ sum_of (take l.weight-index l.weights);
  bounded : unsigned_abs l.total ≤ l.weight-index * 9223372036855775808000000000000;
}
