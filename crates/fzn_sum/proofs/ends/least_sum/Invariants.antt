use Rattle.std.proofs.Common.{◌≡◌, ◌*◌, ◌≤◌, take, unsigned_abs}
use Rattle.fzn_builtin_rules.specs.Linear.{least_sum}
use Rattle.fzn_sum.proofs.ends.least_sum.Given as goal

abbrev pub invariant-loop-place : goal.invariant-loop-place
invariant-loop-place l = record {
  so_far : l.sum ≡ least_sum l.trail.sets (take l.place-index l.places);
  bounded : unsigned_abs l.sum ≤ l.place-index * 1000000000000000000;
}
