use Rattle.std.proofs.Common.{length}
use Rattle.std.specs.List.{All}
use Rattle.fzn_values.specs.Entries.{IsIndex}
use Rattle.fzn_circuit.proofs.ways.starts_of.Given as goal

abbrev pub invariant-loop-k : goal.invariant-loop-k
invariant-loop-k l = All (IsIndex (length l.pass.successors.now)) l.starts

abbrev pub invariant-loop-k-2 : goal.invariant-loop-k-2
invariant-loop-k-2 l = All (IsIndex (length l.pass.successors.now)) l.starts
