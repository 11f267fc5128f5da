use Rattle.std.proofs.Common.{rules, ◌≡◌, ◌↔◌, true, ℤ, pos, ◌≤ℤ◌, ◌+ℤ◌, sym, ap, subst, ◌∙◌, to_z, of_z, w64, arith}
use Rattle.std.proofs.lemmas.Int.{ints, to_z-of_z}
use Rattle.fzn_domain.specs.IntSet.{IntSet, least, greatest}
use Rattle.fzn_domain.specs.Limits.{IsInLimits}
use Rattle.fzn_domain.specs.declared.literal.Lit.{Lit}
use Rattle.fzn_domain.specs.Literal.{is_true_at}
use Rattle.fzn_strategy.specs.declared.annotation.ValueChoice.{ValueChoice}
use Rattle.fzn_strategy.specs.declared.annotation.ValueChoice.TheVariants.{Split, ReverseSplit}
use Rattle.fzn_strategy.specs.Tried.{IsTriedFirst}
use Rattle.fzn_strategy.proofs.annotation.ValueChoice.literal.Goals as goal

as_written : (z : ℤ) → IsInLimits z → to_z w64 (of_z w64 z) ≡ z
as_written z limits = first_of (search rules, grind (arith, ints, to_z-of_z))

-- of two ends and their half together, rounded down
module _ (choice : ValueChoice) (set : IntSet) (lit : Lit) (value low high half : ℤ) (is_low : low ≡ least set) (is_high : high ≡ greatest set) (below : (value ≤ℤ half) ↔ ((value +ℤ value) ≤ℤ (low +ℤ high))) where
  split : choice ≡ Split → (is_true_at lit value ≡ true) ↔ (value ≤ℤ half) → (is_true_at lit value ≡ true) ↔ IsTriedFirst choice set value
  split is meant =
      subst (λ (c : ValueChoice). (is_true_at lit value ≡ true) ↔ IsTriedFirst c set value) (sym is)
      (λ at. grind (arith, ints, below.0 (meant.0 at)), λ tried. meant.1 (below.1 (grind (arith, ints, tried))))

  reverse : choice ≡ ReverseSplit → (is_true_at lit value ≡ true) ↔ ((half +ℤ pos 1) ≤ℤ value) → (is_true_at lit value ≡ true) ↔ IsTriedFirst choice set value
  reverse is meant =
      subst (λ (c : ValueChoice). (is_true_at lit value ≡ true) ↔ IsTriedFirst c set value) (sym is)
      (λ at. grind (arith, ints, below.1, meant.0 at), λ tried. meant.1 (grind (arith, ints, below.0, tried)))

pub returns-in-Split-clause-first : goal.returns-in-Split-clause-first
returns-in-Split-clause-first c value member =
    let low = c.min-in-Split.result in
    let high = c.max-in-Split.result in
    let half : to_z w64 (of_z w64 c.half_of.result) ≡ c.half_of.result = search rules in
    split c.args.self c.args.domain.now c.at_most-in-Split.result value (to_z w64 (of_z w64 low)) (to_z w64 (of_z w64 high)) c.half_of.result
    (as_written low c.min-in-Split.ensures.in_limits ∙ c.min-in-Split.ensures.value)
    (as_written high c.max-in-Split.ensures.in_limits ∙ c.max-in-Split.ensures.value)
    (c.half_of.ensures.below value)
    c.in-Split.is
    (subst (λ (h : ℤ). (is_true_at c.at_most-in-Split.result value ≡ true) ↔ (value ≤ℤ h)) half (c.at_most-in-Split.ensures.meant value))

pub returns-in-ReverseSplit-clause-first : goal.returns-in-ReverseSplit-clause-first
returns-in-ReverseSplit-clause-first c value member =
    let low = c.min-in-ReverseSplit.result in
    let high = c.max-in-ReverseSplit.result in
    let half : to_z w64 (of_z w64 c.half_of-in-ReverseSplit.result) ≡ c.half_of-in-ReverseSplit.result = search rules in
    let next : to_z w64 (of_z w64 (c.half_of-in-ReverseSplit.result +ℤ pos 1)) ≡ c.half_of-in-ReverseSplit.result +ℤ pos 1 = first_of (search rules, grind (arith, ints, to_z-of_z)) in
    reverse c.args.self c.args.domain.now c.at_least-in-ReverseSplit.result value (to_z w64 (of_z w64 low)) (to_z w64 (of_z w64 high)) c.half_of-in-ReverseSplit.result
    (as_written low c.min-in-ReverseSplit.ensures.in_limits ∙ c.min-in-ReverseSplit.ensures.value)
    (as_written high c.max-in-ReverseSplit.ensures.in_limits ∙ c.max-in-ReverseSplit.ensures.value)
    (c.half_of-in-ReverseSplit.ensures.below value)
    c.in-ReverseSplit.is
    (subst (λ (h : ℤ). (is_true_at c.at_least-in-ReverseSplit.result value ≡ true) ↔ (h ≤ℤ value)) (ap (λ (h : ℤ). to_z w64 (of_z w64 (h +ℤ pos 1))) half ∙ next) (c.at_least-in-ReverseSplit.ensures.meant value))
