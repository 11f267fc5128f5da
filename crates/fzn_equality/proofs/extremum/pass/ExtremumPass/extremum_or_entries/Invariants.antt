use Rattle.fzn_equality.proofs.EntryLemmas.{IsAgainstExtremum}
use Rattle.fzn_equality.proofs.extremum.pass.ExtremumPass.extremum_or_entries.Given as goal

abbrev pub invariant-loop-k : goal.invariant-loop-k
invariant-loop-k l = IsAgainstExtremum l.self l.claim l.claims l.k
