use Rattle.std.proofs.Common.{sym, subst}
use Rattle.fzn_meaning.specs.declared.row.Row.{Row}
use Rattle.fzn_levels.specs.ByWeight.{AreOrdersOf}
use Rattle.fzn_separable.proofs.propagator.RowPropagator.new.Goals as goal

pub invariant_of-result : goal.invariant_of-result
invariant_of-result c = record {
  ordered = subst (λ (row : Row). AreOrdersOf row.parts c.in_ok-orders_of.field-0.items) (sym c.in_ok-copied_row.ensures) c.in_ok-orders_of.ensures;
}
