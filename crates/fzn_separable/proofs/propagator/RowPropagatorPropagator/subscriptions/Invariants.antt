use Rattle.std.proofs.Common.{◌≡◌, take}
use Rattle.fzn_separable.specs.Propagator.{waits_for}
use Rattle.fzn_separable.proofs.propagator.RowPropagatorPropagator.subscriptions.Given as goal

-- the subscriptions to the variables of the parts so far
abbrev pub invariant-loop-part : goal.invariant-loop-part
invariant-loop-part l = l.subscriptions ≡ waits_for (take l.part-index l.self.row.parts)
