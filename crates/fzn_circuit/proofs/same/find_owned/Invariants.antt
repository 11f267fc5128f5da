use Rattle.fzn_circuit.specs.Passes.{AreFoundOfCircuit}
use Rattle.fzn_circuit.proofs.same.find_owned.Given as goal

abbrev pub invariant-loop-j : goal.invariant-loop-j
invariant-loop-j l = AreFoundOfCircuit l.pass l.found
