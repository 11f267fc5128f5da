use Rattle.std.proofs.Common.{◌/◌, ◌-◌, ◌≤◌, length}
use Rattle.fzn_values.specs.Term.{numbers_in}
use Rattle.fzn_propagator.specs.Clause.{IsFalseClause, Says}
use Rattle.fzn_table.specs.Supports.{AreMatchesOut}
use Rattle.fzn_table.proofs.table.explain_claim.Given as goal

abbrev pub invariant-loop-r : goal.invariant-loop-r
invariant-loop-r l = record {
  still : IsFalseClause l.pass.trail.now l.clause;
  in_rows : l.r ≤ length l.pass.rows.now / length l.pass.places.now;
  out : Says l.pass.trail.now.declared l.clause (λ sets. AreMatchesOut sets l.pass.places.now (numbers_in l.pass.rows.now) l.p l.op l.bound l.r);
}

abbrev pub decreases-loop-r : goal.decreases-loop-r
decreases-loop-r l = length l.pass.rows.now / length l.pass.places.now - l.r
