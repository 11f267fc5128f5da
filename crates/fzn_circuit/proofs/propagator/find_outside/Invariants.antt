use Rattle.std.proofs.Common.{◌≡◌, ℕ, ◌<◌, [], length, get_or}
use Rattle.fzn_values.specs.declared.term.Term.{Term}
use Rattle.fzn_circuit.specs.Circuits.{IsSuccessorInside}
use Rattle.fzn_circuit.specs.Passes.{AreFoundOfCircuit}
use Rattle.fzn_circuit.proofs.propagator.find_outside.Given as goal

abbrev pub invariant-loop-k : goal.invariant-loop-k
invariant-loop-k l = record {
  found : AreFoundOfCircuit l.pass l.found;
  none : l.found ≡ [] → (k : ℕ) (d : Term) → k < l.k → IsSuccessorInside l.pass.trail.now.sets (length l.pass.successors.now) (get_or l.pass.successors.now k d);
}
