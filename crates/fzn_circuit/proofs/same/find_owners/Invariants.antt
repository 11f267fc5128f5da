use Rattle.fzn_circuit.specs.Passes.{AreFoundOfCircuit}
use Rattle.fzn_circuit.proofs.same.find_owners.Given as goal

abbrev pub invariant-loop : goal.invariant-loop
invariant-loop l = AreFoundOfCircuit l.pass l.found
