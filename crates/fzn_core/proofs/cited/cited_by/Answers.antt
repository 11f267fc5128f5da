use Rattle.std.proofs.lemmas.List.Filters.{dedup_is}
use Rattle.std.proofs.lemmas.List.Kept.{Contains-dedup_nat, Contains-from_dedup}
use Rattle.std.proofs.lemmas.List.Sorted.{Contains-permutation, IsPermutation-sym}
use Rattle.std.proofs.lemmas.Map.Keys.{IsStrictlyIncreasing-dedup}
use Rattle.fzn_core.proofs.cited.cited_by.Goals as goal

pub returns-clause-cited : goal.returns-clause-cited
returns-clause-cited c = λ number.
    let is = dedup_is _ _ _ c.dedup.ensures.filtered in
    let moved = c.sort_unstable.ensures.permutation in
    rw (← c.in_ok-numbers.ensures) (
      λ h. Contains-permutation _ _ number (IsPermutation-sym _ _ moved) (Contains-from_dedup _ _ number (rw is at h)),
      λ h. rw is (Contains-dedup_nat _ number (Contains-permutation _ _ number moved h)),
    )

pub returns-clause-rising : goal.returns-clause-rising
returns-clause-rising c = rw (dedup_is _ _ _ c.dedup.ensures.filtered) (IsStrictlyIncreasing-dedup _ c.sort_unstable.ensures.sorted)
