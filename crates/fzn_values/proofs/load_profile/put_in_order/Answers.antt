use Rattle.std.proofs.Common.{pos, FitsSigned, w64, subst, arith}
use Rattle.std.specs.List.Sorted.{IsPermutation}
use Rattle.std.proofs.lemmas.List.{ext_get_or}
use Rattle.std.proofs.lemmas.List.Elements.{All-from_get_or}
use Rattle.std.proofs.lemmas.List.Sorted.{All-permutation}
use Rattle.fzn_values.proofs.LoadProfileLemmas.{AllPairs-sorted}
use Rattle.fzn_values.proofs.load_profile.put_in_order.Goals as goal

-- the times that are written are those of the block
pub returns-clause-same : goal.returns-clause-same
returns-clause-same c =
    subst (λ xs. IsPermutation xs c.sort_unstable.new.self) (ext_get_or (pos 0) c.loop-place.times c.args.block.now c.loop-place.invariant.length (λ k lt. c.loop-place.invariant.written k (omega arith))) c.sort_unstable.ensures.permutation

pub returns-clause-order : goal.returns-clause-order
returns-clause-order c = record {
  order = AllPairs-sorted c.sort_unstable.new.self c.sort_unstable.ensures.sorted;
  fits = All-permutation (FitsSigned w64) c.args.block.now c.sort_unstable.new.self (returns-clause-same c) (All-from_get_or (FitsSigned w64) c.args.block.now (pos 0) (λ k lt. c.loop-place.invariant.fits k (omega arith)));
}
