use Rattle.std.proofs.Common.{◌≡◌, true, ℤ, ◌≤ℤ◌, ◌<ℤ◌}
use Rattle.fzn_domain.specs.IntSet.{contains, width}
use Rattle.fzn_domain.proofs.allowed.first_gap.Given as goal

abbrev pub invariant-loop-value : goal.invariant-loop-value
invariant-loop-value l = (l.bound ≤ℤ l.value) × ((other : ℤ) → l.bound ≤ℤ other → other <ℤ l.value → contains l.holes other ≡ true)

abbrev pub decreases-loop-value : goal.decreases-loop-value
decreases-loop-value l = width l.value l.high
