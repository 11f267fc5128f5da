use Rattle.std.proofs.Common.{ℕ, ◌-◌, ◌<◌, ◌≤◌, length, get_or, ℤ, ◌≤ℤ◌}
use Rattle.fzn_levels.specs.ByWeight.{IsByWeight}
use Rattle.fzn_levels.proofs.ByWeightLemmas.{Weighs}
use Rattle.fzn_levels.proofs.by_weight.ByWeight.first_reaching.Given as goal

abbrev pub invariant-loop-low : goal.invariant-loop-low
invariant-loop-low l = record {
  within : l.high ≤ length l.self.order.items;
  heavy : IsByWeight l.part l.listed l.self → (k : ℕ) (w : ℤ) → l.high ≤ k → k < length l.self.order.items → Weighs l.part l.listed (get_or l.self.order.items k 0) w → l.level ≤ℤ w;
}

abbrev pub decreases-loop-low : goal.decreases-loop-low
decreases-loop-low l = l.high - l.low
