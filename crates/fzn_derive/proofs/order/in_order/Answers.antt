use Rattle.std.proofs.Common.{List, subst, sym, ℕ}
use Rattle.std.specs.List.{Contains}
use Rattle.std.proofs.lemmas.List.Filters.{dedup_is}
use Rattle.std.proofs.lemmas.List.Kept.{Contains-dedup_nat, Contains-from_dedup, AllPairs-from_increasing}
use Rattle.std.proofs.lemmas.List.Sorted.{Contains-permutation, IsPermutation-sym}
use Rattle.std.proofs.lemmas.Map.Keys.{IsStrictlyIncreasing-dedup}
use Rattle.fzn_derive.proofs.order.in_order.Goals as goal

pub returns : goal.returns
returns c =
    let is = dedup_is _ _ _ c.dedup.ensures.filtered in
    let moved = c.sort_unstable.ensures.permutation in
    let from = c.in_ok-order.ensures.items in
    record {
      rising = AllPairs-from_increasing _ (rw is (IsStrictlyIncreasing-dedup _ c.sort_unstable.ensures.sorted));
      keeps = λ x h. rw is (Contains-dedup_nat _ x (Contains-permutation _ _ x moved (subst (λ (xs : List ℕ). Contains xs x) (sym from) h)));
      only = λ x h. subst (λ (xs : List ℕ). Contains xs x) from (Contains-permutation _ _ x (IsPermutation-sym _ _ moved) (Contains-from_dedup _ _ x (rw is at h)));
    }
