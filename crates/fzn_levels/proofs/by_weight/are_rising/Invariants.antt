use Rattle.std.proofs.Common.{ℕ, ◌<◌, length, get_or}
use Rattle.fzn_levels.proofs.ByWeightLemmas.{AreRisingBefore, AreUpTo}
use Rattle.fzn_levels.proofs.by_weight.are_rising.Given as goal

abbrev pub invariant-loop-i : goal.invariant-loop-i
invariant-loop-i l = record {
  rising : AreRisingBefore l.part l.listed l.order l.i-index;
  up_to : AreUpTo l.part l.listed l.order l.i-index l.last;
  inside : (k d : ℕ) → k < l.i-index → get_or l.order k d < length l.listed.weights;
}
