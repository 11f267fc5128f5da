use Rattle.std.proofs.Common.{◌≡◌, ◌<◌, ◌≤◌, ℕ, List, map, length, refl, inr, sym, ap, ap₂, subst, ◌∙◌, arith, ℤ, None, All}
use Rattle.std.specs.List.{filter}
use Rattle.std.proofs.lemmas.Int.{to_z-of_z}
use Rattle.std.proofs.lemmas.Bool.{both_ways}
use mir.Syntax.{w64, w128}
use mir.Val.{to_z, of_z}
use Rattle.fzn_list.specs.Limits.{longest}
use Rattle.fzn_domain.specs.Limits.{IsSmall}
use Rattle.fzn_values.specs.declared.term.Place.{Place}
use Rattle.fzn_meaning.specs.declared.relation.Comparison.TheVariants.{AtMost}
use Rattle.fzn_meaning.specs.declared.constraint.Constraint.TheVariants.{Linear}
use Rattle.fzn_derive.specs.Merged.{has_weight}
use Rattle.fzn_derive.specs.Room.{variables_in, cell_of, sum_place, held, IsSortedOnce}
use Rattle.fzn_derive.proofs.BoundLemmas.{small-fits}
use Rattle.fzn_derive.proofs.StatingLemmas.{small-held, held-small, order-inside, order-small, order-held}
use Rattle.fzn_derive.proofs.adder.Adder.state.Goals as goal

pub returns-then-not-are_small-clause-fault : goal.returns-then-not-are_small-clause-fault
returns-then-not-are_small-clause-fault c =
    inr (refl, λ statable. both_ways c.are_small.result c.if-not-are_small.true (c.are_small.ensures.1 (small-held c.args.self.now c.requires statable.coefficients)))

pub returns-then-not-is_small-clause-fault : goal.returns-then-not-is_small-clause-fault
returns-then-not-is_small-clause-fault c =
    inr (refl, λ statable. both_ways c.is_small.result c.if-not-is_small.true (c.is_small.ensures.1 (subst IsSmall (sym (to_z-of_z w128 c.args.bound c.ranges.bound)) statable.bounded)))

pub sum_over-requires-clause-inside : goal.sum_over-requires-clause-inside
sum_over-requires-clause-inside c =
    let room = c.args.self.now in
    let order = c.in_ok-order.order.items in
    let ordered = subst (λ (ns : List ℕ). IsSortedOnce ns order) c.as_slice.ensures.value c.in_ok-order.ensures in
    subst (All (λ (place : ℕ). place < variables_in room)) (sym c.as_slice-2.ensures.value) (order-inside room c.requires order ordered)

pub sum_over-requires-clause-small : goal.sum_over-requires-clause-small
sum_over-requires-clause-small c =
    let room = c.args.self.now in
    let order = c.in_ok-order.order.items in
    let ordered = subst (λ (ns : List ℕ). IsSortedOnce ns order) c.as_slice.ensures.value c.in_ok-order.ensures in
    subst (All (λ (place : ℕ). IsSmall (cell_of room place).sum)) (sym c.as_slice-2.ensures.value) (order-small room c.requires order ordered (c.are_small.ensures.0 c.if-not-are_small.false))

pub returns-then-len-gt-LONGEST-clause-fault : goal.returns-then-len-gt-LONGEST-clause-fault
returns-then-len-gt-LONGEST-clause-fault c =
    let room = c.args.self.now in
    let order = c.in_ok-order.order.items in
    let ordered = subst (λ (ns : List ℕ). IsSortedOnce ns order) c.as_slice.ensures.value c.in_ok-order.ensures in
    let sum_is = c.in_ok-sum.ensures ∙ ap (λ (ns : List ℕ). filter has_weight (map (sum_place room) ns)) c.as_slice-2.ensures.value ∙ order-held room c.requires order ordered in
    let len : length c.in_ok-sum.sum ≡ length (held room) = ap (λ (places : List Place). length places) sum_is in
    inr (refl, λ statable. let short : length (held room) ≤ longest = statable.short in omega (arith, c.len.ensures))

pub returns-clause-stated : goal.returns-clause-stated
returns-clause-stated c =
    let room = c.args.self.now in
    let order = c.in_ok-order.order.items in
    let ordered = subst (λ (ns : List ℕ). IsSortedOnce ns order) c.as_slice.ensures.value c.in_ok-order.ensures in
    let sum_is = c.in_ok-sum.ensures ∙ ap (λ (ns : List ℕ). filter has_weight (map (sum_place room) ns)) c.as_slice-2.ensures.value ∙ order-held room c.requires order ordered in
    let plain = to_z-of_z w128 c.args.bound c.ranges.bound in
    let small = subst IsSmall plain (c.is_small.ensures.0 c.if-not-is_small.false) in
    let bound_is = ap (λ (x : ℤ). to_z w64 (of_z w64 x)) plain ∙ to_z-of_z w64 c.args.bound (small-fits c.args.bound small) in
    ap₂ (λ (sum : List Place) (x : ℤ). Linear sum AtMost x None) sum_is bound_is

pub returns-clause-statable : goal.returns-clause-statable
returns-clause-statable c =
    let room = c.args.self.now in
    let order = c.in_ok-order.order.items in
    let ordered = subst (λ (ns : List ℕ). IsSortedOnce ns order) c.as_slice.ensures.value c.in_ok-order.ensures in
    let sum_is = c.in_ok-sum.ensures ∙ ap (λ (ns : List ℕ). filter has_weight (map (sum_place room) ns)) c.as_slice-2.ensures.value ∙ order-held room c.requires order ordered in
    let few : length c.in_ok-sum.sum ≤ longest = omega (arith, c.len.ensures) in
    record {
      coefficients = held-small room c.requires (c.are_small.ensures.0 c.if-not-are_small.false);
      bounded = subst IsSmall (to_z-of_z w128 c.args.bound c.ranges.bound) (c.is_small.ensures.0 c.if-not-is_small.false);
      short = subst (λ (places : List Place). length places ≤ longest) sum_is few;
    }
