use Rattle.std.proofs.Common.{◌≡◌, true, ℤ, ◌≤ℤ◌, ◌<ℤ◌}
use Rattle.fzn_domain.specs.IntSet.{contains, width}
use Rattle.fzn_domain.proofs.allowed.last_gap.Given as goal

abbrev pub invariant-loop-value : goal.invariant-loop-value
invariant-loop-value l = (l.value ≤ℤ l.bound) × ((other : ℤ) → l.value <ℤ other → other ≤ℤ l.bound → contains l.holes other ≡ true)

abbrev pub decreases-loop-value : goal.decreases-loop-value
decreases-loop-value l = width l.low l.value
