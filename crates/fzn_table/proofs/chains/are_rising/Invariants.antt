use Rattle.fzn_table.proofs.ChainLemmas.{AreRising}
use Rattle.fzn_table.proofs.chains.are_rising.Given as goal

abbrev pub invariant-loop-k : goal.invariant-loop-k
invariant-loop-k l = AreRising l.numbers l.k
