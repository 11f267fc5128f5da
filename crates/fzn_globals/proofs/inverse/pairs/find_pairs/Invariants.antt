use Rattle.std.proofs.Common.{◌≡◌, [], ℤ, pos, ◌<ℤ◌}
use Rattle.fzn_domain.specs.IntSet.{width}
use Rattle.fzn_domain.specs.Limits.{IsInLimits}
use Rattle.fzn_globals.specs.InversePasses.{AreFoundOfInverse, MayLead, MayLeadBack}
use Rattle.fzn_globals.proofs.inverse.pairs.find_pairs.Given as goal

-- the number is a value of the entry, and those below it lead back where nothing was found
abbrev pub invariant-loop-value : goal.invariant-loop-value
invariant-loop-value l = record {
  found : AreFoundOfInverse l.pass l.found;
  kept : l.found ≡ [] → l.fn.found ≡ [];
  member : MayLead l.pass l.i l.value;
  in_limits : IsInLimits l.value;
  done : l.found ≡ [] → (v : ℤ) → MayLead l.pass l.i v → v <ℤ l.value → MayLeadBack l.pass l.i v;
}

abbrev pub decreases-loop-value : goal.decreases-loop-value
decreases-loop-value l = width l.value (pos 1000000000)
