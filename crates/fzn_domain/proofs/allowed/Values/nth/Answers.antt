use Rattle.std.proofs.Common.{◌≡◌, ◌+◌, ◌/◌, ap, subst₂, ◌∙◌, arith, rules, to_z, of_z, to_z-of_z, FitsSigned, w64, true}
use Rattle.fzn_domain.specs.Allowed.{selected}
use Rattle.fzn_domain.specs.IntSet.{contains, size, below}
use Rattle.fzn_domain.proofs.DomainLemmas.{real}
use Rattle.fzn_domain.proofs.CountLemmas.{search_starts, search_lower, search_higher, search_ends, width_plus}
use Rattle.fzn_domain.proofs.allowed.Values.nth.Goals as goal

pub loop-from-init : goal.loop-from-init
loop-from-init c =
    let low = real _ c.requires.low_in_limits in
    let high = real _ c.requires.high_in_limits in
    rw (low, high) (search_starts c.args.low c.args.high c.args.self.now c.args.place _ (width_plus c.args.low c.args.high c.requires.low_in_limits c.requires.high_in_limits c.requires.ordered) c.requires.place)

pub loop-from-preserved-then-count_within-place : goal.loop-from-preserved-then-count_within-place
loop-from-preserved-then-count_within-place c =
    let fits : FitsSigned w64 c.plus.result = search rules in
    let at = to_z-of_z fits ∙ c.plus.ensures in
    search_lower _ _ _ _ _ _ ((c.loop-from.from + c.loop-from.upto) / 2) c.loop-from.invariant (omega arith) (omega arith)
    (omega (arith, ap (λ v. size (selected (to_z w64 (of_z w64 c.args.low)) v c.args.self.now)) at))

pub loop-from-preserved : goal.loop-from-preserved
loop-from-preserved c =
    let fits : FitsSigned w64 c.plus.result = search rules in
    let at = to_z-of_z fits ∙ c.plus.ensures in
    search_higher _ _ _ _ _ _ ((c.loop-from.from + c.loop-from.upto) / 2) c.loop-from.invariant (omega arith) (omega arith)
    (omega (arith, ap (λ v. size (selected (to_z w64 (of_z w64 c.args.low)) v c.args.self.now)) at))

ends : (c : goal.After-plus-2) → (contains (selected c.args.low c.args.high c.args.self.now) (to_z w64 (of_z w64 c.plus-2.result)) ≡ true) × (size (below (selected c.args.low c.args.high c.args.self.now) (to_z w64 (of_z w64 c.plus-2.result))) ≡ c.args.place)
ends c =
    let low = real _ c.requires.low_in_limits in
    let high = real _ c.requires.high_in_limits in
    let fits : FitsSigned w64 c.plus-2.result = search rules in
    let at = to_z-of_z fits ∙ c.plus-2.ensures in
    let found = search_ends _ _ _ _ _ _ c.loop-from.invariant c.loop-from-test.false in
    subst₂ (λ l h. (contains (selected l h c.args.self.now) (to_z w64 (of_z w64 c.plus-2.result)) ≡ true) × (size (below (selected l h c.args.self.now) (to_z w64 (of_z w64 c.plus-2.result))) ≡ c.args.place)) low high (
      ap (contains (selected (to_z w64 (of_z w64 c.args.low)) (to_z w64 (of_z w64 c.args.high)) c.args.self.now)) at ∙ found.0,
      ap (λ v. size (below (selected (to_z w64 (of_z w64 c.args.low)) (to_z w64 (of_z w64 c.args.high)) c.args.self.now) v)) at ∙ found.1,
    )

pub returns-clause-member : goal.returns-clause-member
returns-clause-member c = (ends c).0

pub returns-clause-place : goal.returns-clause-place
returns-clause-place c = (ends c).1
