use Rattle.std.proofs.Common.{◌≡◌, true, ℤ, ◌≤ℤ◌}
use Rattle.fzn_domain.specs.IntSet.{contains, greatest, width}
use Rattle.fzn_builtin_rules.proofs.overlap.are_apart.Given as goal

-- the number is a member of the first set, and no common member is below it
abbrev pub invariant-loop-value : goal.invariant-loop-value
invariant-loop-value l = record {
  member : contains l.first l.value ≡ true;
  passed : (other : ℤ) → contains l.first other ≡ true → contains l.second other ≡ true → l.value ≤ℤ other;
}

abbrev pub decreases-loop-value : goal.decreases-loop-value
decreases-loop-value l = width l.value (greatest l.first)
