use Rattle.fzn_rules.proofs.RisingLemmas.{Rises}
use Rattle.fzn_rules.proofs.cut.is_rising.Given as goal

abbrev pub invariant-loop-k : goal.invariant-loop-k
invariant-loop-k l = Rises l.places l.k
