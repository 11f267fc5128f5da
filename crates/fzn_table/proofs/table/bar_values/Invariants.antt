use Rattle.std.proofs.Common.{◌≡◌, [], ℤ, pos, ◌<ℤ◌}
use Rattle.fzn_domain.specs.IntSet.{width}
use Rattle.fzn_domain.specs.Limits.{IsInLimits}
use Rattle.fzn_table.specs.Passes.{MayHave, AreOpenRows, HasSupport, AreFoundOfTable}
use Rattle.fzn_table.proofs.table.bar_values.Given as goal

-- the number is a value of the place, and those below it are supported where nothing was found
abbrev pub invariant-loop-value : goal.invariant-loop-value
invariant-loop-value l = record {
  member : MayHave l.pass l.p l.value;
  in_limits : IsInLimits l.value;
  done : l.found ≡ [] → (v : ℤ) → MayHave l.pass l.p v → v <ℤ l.value → HasSupport l.pass l.p v;
  marks : AreOpenRows l.pass l.marks.items;
  found : AreFoundOfTable l.pass l.found;
  kept : l.found ≡ [] → l.fn.found ≡ [];
}

abbrev pub decreases-loop-value : goal.decreases-loop-value
decreases-loop-value l = width l.value (pos 1000000000)
