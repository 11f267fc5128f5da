use Rattle.fzn_search.proofs.FixedLemmas.{IsWithinUpTo}
use Rattle.fzn_search.proofs.search.values_of.Given as goal

abbrev pub invariant-loop-i : goal.invariant-loop-i
invariant-loop-i l = IsWithinUpTo l.trail.sets l.values l.i
