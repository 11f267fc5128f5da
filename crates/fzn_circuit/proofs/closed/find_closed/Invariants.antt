use Rattle.std.proofs.Common.{ℕ, ◌<◌, get_or, length, pos}
use Rattle.fzn_values.specs.Entries.{IsIndex}
use Rattle.fzn_propagator.specs.Clause.{IsFalseClause, Says}
use Rattle.fzn_circuit.proofs.ClosedLemmas.{LeadInto}
use Rattle.fzn_circuit.proofs.closed.find_closed.Given as goal

abbrev pub invariant-loop-place : goal.invariant-loop-place
invariant-loop-place l = record {
  indices : (k : ℕ) → k < l.place-index → IsIndex (length l.pass.successors.now) (get_or l.list k (pos 0));
  still : IsFalseClause l.pass.trail.now l.clause;
  says : Says l.pass.trail.now.declared l.clause (LeadInto l.pass.successors.now l.list l.place-index);
}
