use Rattle.fzn_equality.proofs.EntryLemmas.{IsAgainstValue}
use Rattle.fzn_equality.proofs.element.pass.ElementPass.value_or_entries.Given as goal

abbrev pub invariant-loop-k : goal.invariant-loop-k
invariant-loop-k l = IsAgainstValue l.self l.claim l.claims l.k
