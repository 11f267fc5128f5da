use Rattle.std.proofs.Common.{◌≡◌, length}
use Rattle.fzn_circuit.specs.Circuits.{IsWay}
use Rattle.fzn_circuit.proofs.circuit.follow.Given as goal

abbrev pub invariant-loop-count : goal.invariant-loop-count
invariant-loop-count l = record {
  way : IsWay l.pass.trail.now l.pass.successors.now l.start l.last l.places.items l.clause;
  count : length l.places.items ≡ l.count;
}
