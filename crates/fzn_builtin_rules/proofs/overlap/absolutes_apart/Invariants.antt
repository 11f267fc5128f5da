use Rattle.std.proofs.Common.{◌≡◌, true, ℤ, pos, ◌≤ℤ◌, unsigned_abs}
use Rattle.fzn_domain.specs.IntSet.{contains, width}
use Rattle.fzn_domain.specs.Limits.{IsInLimits}
use Rattle.fzn_builtin_rules.proofs.overlap.absolutes_apart.Given as goal

-- no absolute value below the number is shared
abbrev pub invariant-loop-absolute : goal.invariant-loop-absolute
invariant-loop-absolute l = record {
  natural : pos 0 ≤ℤ l.absolute;
  in_limits : IsInLimits l.absolute;
  passed : (other : ℤ) → contains l.first other ≡ true → contains l.second (pos (unsigned_abs other)) ≡ true → l.absolute ≤ℤ pos (unsigned_abs other);
}

abbrev pub decreases-loop-absolute : goal.decreases-loop-absolute
decreases-loop-absolute l = width l.absolute (pos 1000000000)
