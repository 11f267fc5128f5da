use Rattle.fzn_circuit.proofs.WayLemmas.{IsRisen}
use Rattle.fzn_circuit.proofs.circuit.rising.Given as goal

abbrev pub invariant-loop-k : goal.invariant-loop-k
invariant-loop-k l = IsRisen l.values l.k l.items
