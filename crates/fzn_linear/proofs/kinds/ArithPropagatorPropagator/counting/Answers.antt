use Rattle.std.proofs.Common.{sym, subst, IfOk, IfSome}
use Rattle.fzn_linear.specs.declared.kinds.ArithPropagator.{ArithPropagator}
use Rattle.fzn_linear.specs.AnyKind.{KindCounts}
use Rattle.fzn_linear.proofs.kinds.ArithPropagatorPropagator.counting.Goals as goal

pub returns-in-Sum : goal.returns-in-Sum
returns-in-Sum c = record {
  counts = subst (λ (p : ArithPropagator). IfOk c.counting.result (λ found. IfSome found (KindCounts p))) (sym c.in-Sum.is) c.counting.ensures.counts;
}
