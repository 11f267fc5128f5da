use Rattle.std.proofs.Common.{◌≡◌, ◌*◌, ◌≤◌, pos, ◌≤ℤ◌, take, unsigned_abs, All}
use Rattle.fzn_builtin_rules.specs.Linear.{least_sum, greatest_sum}
use Rattle.fzn_propagator.specs.Inference.{spread_of_place}
use Rattle.fzn_sum.proofs.ends.ends_of_few.Given as goal

abbrev pub invariant-loop-place : goal.invariant-loop-place
invariant-loop-place l = record {
  least : l.ends.least ≡ least_sum l.trail.sets (take l.place-index l.places);
  greatest : l.ends.greatest ≡ greatest_sum l.trail.sets (take l.place-index l.places);
  least_bounded : unsigned_abs l.ends.least ≤ l.place-index * 1000000000000000000;
  greatest_bounded : unsigned_abs l.ends.greatest ≤ l.place-index * 1000000000000000000;
  not_below : pos 0 ≤ℤ l.ends.widest;
  none_wider : All (λ place. spread_of_place l.trail.sets place ≤ℤ l.ends.widest) (take l.place-index l.places);
}
