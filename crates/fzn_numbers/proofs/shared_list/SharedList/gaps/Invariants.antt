use Rattle.std.proofs.Common.{ℤ, ◌≤ℤ◌}
use Rattle.fzn_numbers.specs.IntSet.{width}
use Rattle.fzn_numbers.proofs.GapLemmas.{AreGapsBelow}
use Rattle.fzn_numbers.proofs.shared_list.SharedList.gaps.Given as goal

abbrev pub invariant-loop-value : goal.invariant-loop-value
invariant-loop-value l = record {
  above : l.low ≤ℤ l.from;
  so_far : (v : ℤ) → l.low ≤ℤ v → v ≤ℤ l.high → AreGapsBelow l.gaps l.self l.from v;
}

abbrev pub decreases-loop-value : goal.decreases-loop-value
decreases-loop-value l = width l.from l.high
