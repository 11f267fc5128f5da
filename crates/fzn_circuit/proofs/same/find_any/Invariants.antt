use Rattle.std.proofs.Common.{ℕ, ◌<◌}
use Rattle.fzn_circuit.specs.Circuits.{HaveNoCommonValue}
use Rattle.fzn_circuit.specs.Passes.{AreFoundOfCircuit}
use Rattle.fzn_circuit.proofs.same.find_any.Given as goal

abbrev pub invariant-loop-i : goal.invariant-loop-i
invariant-loop-i l = record {
  found : AreFoundOfCircuit l.pass l.found;
  apart : (i j : ℕ) → i < l.i → HaveNoCommonValue l.pass.trail.now.sets l.pass.successors.now i j;
}

abbrev pub invariant-loop-j : goal.invariant-loop-j
invariant-loop-j l = record {
  found : AreFoundOfCircuit l.pass l.found;
  apart : (j : ℕ) → j < l.j → HaveNoCommonValue l.pass.trail.now.sets l.pass.successors.now l.i j;
}
