use Rattle.fzn_domain.specs.Limits.{IsInLimits}
use Rattle.fzn_terms.specs.Denied.{IsGrown}
use Rattle.fzn_circuit.proofs.ClosedLemmas.{LeadsIntoBelow}
use Rattle.fzn_circuit.proofs.closed.explain_between.Given as goal

-- the values below this one are among the places
abbrev pub invariant-loop : goal.invariant-loop
invariant-loop l = record {
  limits : IsInLimits l.value;
  below : IsGrown l.pass.trail.now (LeadsIntoBelow l.places l.var l.low l.value) l.fn.clause l.clause;
}
