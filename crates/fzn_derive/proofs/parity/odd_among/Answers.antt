use Rattle.std.proofs.Common.{List, ℕ, subst, sym}
use Rattle.std.specs.List.Sorted.{IsNonDecreasing}
use Rattle.std.proofs.lemmas.List.Sorted.{IsNonDecreasingBy-from_sort}
use Rattle.std.proofs.lemmas.Result.{IfOk-weaker}
use Rattle.fzn_derive.specs.Parity.{AreOddIn}
use Rattle.fzn_derive.proofs.SortedLemmas.{odd_in-permutation}
use Rattle.fzn_derive.proofs.parity.odd_among.Goals as goal

pub odd_among_sorted-requires : goal.odd_among_sorted-requires
odd_among_sorted-requires c = subst IsNonDecreasing (sym c.deref.ensures.value) (IsNonDecreasingBy-from_sort (λ (n : ℕ). n) c.sort_unstable.new.self.items c.sort_unstable.ensures.sorted)

pub returns : goal.returns
returns c =
    IfOk-weaker c.odd_among_sorted.result (λ odd. AreOddIn c.deref.result.now odd.items) (λ odd. AreOddIn c.args.numbers.items odd.items) (λ odd h.
    odd_in-permutation c.args.numbers.items c.sort_unstable.new.self.items odd.items c.sort_unstable.ensures.permutation (subst (λ (xs : List ℕ). AreOddIn xs odd.items) c.deref.ensures.value h)) c.odd_among_sorted.ensures
