use Rattle.fzn_levels.proofs.ByWeightLemmas.{NoneBefore}
use Rattle.fzn_levels.proofs.by_weight.ByWeight.least.Given as goal

abbrev pub invariant-loop-i : goal.invariant-loop-i
invariant-loop-i l = NoneBefore l.set l.part l.listed l.self.order.items l.i-index
