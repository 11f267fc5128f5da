use Rattle.std.proofs.Common.{◌≡◌, true, ℤ, ◌<ℤ◌}
use Rattle.fzn_domain.specs.IntSet.{contains, greatest, width}
use Rattle.fzn_builtin_rules.proofs.overlap.has_each.Given as goal

-- the number is a member of the first set, and the members below it are in the second
abbrev pub invariant-loop-value : goal.invariant-loop-value
invariant-loop-value l = record {
  member : contains l.first l.value ≡ true;
  passed : (other : ℤ) → contains l.first other ≡ true → other <ℤ l.value → contains l.second other ≡ true;
}

abbrev pub decreases-loop-value : goal.decreases-loop-value
decreases-loop-value l = width l.value (greatest l.first)
