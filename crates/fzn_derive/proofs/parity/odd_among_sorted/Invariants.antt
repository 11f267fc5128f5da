use Rattle.fzn_derive.proofs.SortedLemmas.{AreOddSoFar}
use Rattle.fzn_derive.proofs.parity.odd_among_sorted.Given as goal

abbrev pub invariant-loop-number : goal.invariant-loop-number
invariant-loop-number l = AreOddSoFar l.sorted l.number-index l.odd.items
