use Rattle.std.proofs.Common.{◌≡◌, length}
use Rattle.fzn_levels.proofs.ByWeightLemmas.{AreOrdersBefore}
use Rattle.fzn_levels.proofs.by_weight.orders_of.Given as goal

abbrev pub invariant-loop-part : goal.invariant-loop-part
invariant-loop-part l = record {
  count : length l.orders.items ≡ l.part-index;
  are : AreOrdersBefore l.row.parts l.orders.items l.part-index;
}
