use Rattle.std.proofs.Common.{◌≡◌, true, ℤ, ◌≤ℤ◌}
use Rattle.fzn_domain.specs.IntSet.{contains, width}
use Rattle.fzn_domain.proofs.allowed.run_end_in.Given as goal

abbrev pub invariant-loop-end : goal.invariant-loop-end
invariant-loop-end l = (l.value ≤ℤ l.end) × (l.end ≤ℤ l.high) × ((v : ℤ) → l.value ≤ℤ v → v ≤ℤ l.end → contains l.list v ≡ true)

abbrev pub decreases-loop-end : goal.decreases-loop-end
decreases-loop-end l = width l.end l.high
