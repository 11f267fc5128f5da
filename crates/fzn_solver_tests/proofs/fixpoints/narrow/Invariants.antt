use Rattle.std.proofs.Common.{◌≡◌}
use Rattle.fzn_meaning.specs.Solutions.{declared_sets}
use Rattle.fzn_solver_tests.proofs.fixpoints.narrow.Given as goal

abbrev pub invariant-loop : goal.invariant-loop
invariant-loop g l = record {
  is_for : g.C.Constraints.is_for l.constraints l.model;
  declared : l.trail.declared ≡ declared_sets l.model.vars;
  same : l.trail.declared ≡ l.fn.trail.declared;
}
