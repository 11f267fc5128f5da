use Rattle.std.proofs.Common.{length}
use Rattle.fzn_values.specs.Entries.{IsIndex}
use Rattle.fzn_circuit.proofs.ways.comes_back.Given as goal

abbrev pub invariant-loop-count : goal.invariant-loop-count
invariant-loop-count l = IsIndex (length l.pass.successors.now) l.last
