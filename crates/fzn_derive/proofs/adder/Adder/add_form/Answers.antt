use Rattle.std.proofs.Common.{◌≡◌, refl, sym, ap, subst, inr, arith, rules, FitsSigned, ℤ, ◌+ℤ◌, ◌-ℤ◌, ◌*ℤ◌}
use Rattle.std.proofs.lemmas.Int.{ints, to_z-of_z}
use Rattle.std.proofs.lemmas.Bool.{both_ways}
use mir.Syntax.{w64, w128}
use mir.Val.{to_z, of_z}
use Rattle.fzn_builtin_rules.specs.Borrowed.{form_in}
use Rattle.fzn_derive.specs.Merged.{constant_of}
use Rattle.fzn_derive.specs.Summed.{times}
use Rattle.fzn_derive.specs.Room.{variables_in, IsAdded, IsWithinLimit}
use Rattle.fzn_derive.proofs.BoundLemmas.{product-plain, small-fits}
use Rattle.fzn_derive.proofs.RoomLemmas.{all_within, terms_within}
use Rattle.fzn_derive.proofs.adder.Adder.add_form.Goals as goal
use Rattle.fzn_derive.proofs.adder.Adder.add_form.Goals.{else-are_within-via-then-are_within+else-is_within_limit, else-are_within-via-else-are_within}

bound-is : (m plain bound by sum left cast constants plain_constants : ℤ) → cast ≡ left → left ≡ sum -ℤ constants → constants ≡ plain_constants → sum ≡ bound +ℤ by *ℤ plain → cast ≡ (bound +ℤ plain *ℤ by) -ℤ plain_constants
bound-is m plain bound by sum left cast constants plain_constants a b d e = omega (arith, ints)

pub returns-then-is_within_limit-clause-added : goal.returns-then-is_within_limit-clause-added
returns-then-is_within_limit-clause-added c =
    let m = c.args.multiplier in
    let found = form_in c.args.form.now in
    let same = to_z-of_z w64 m c.ranges.multiplier in
    let new = c.add_places.new.self in
    let added = subst (λ (k : ℤ). IsAdded c.args.self.now new (times k found.places)) same c.in_ok-left.ensures.added in
    let fits : FitsSigned w128 c.in_ok-left.left = search rules in
    let wide : FitsSigned w128 c.plus_product-bound.result = search rules in
    let sum = product-plain c.args.bound found.bound m c.plus_product-bound.result c.ranges.bound (small-fits found.bound c.requires.form.bounded) c.ranges.multiplier c.plus_product-bound.ensures.value in
    record {
      added = added;
      bound_is = bound-is m m c.args.bound found.bound c.plus_product-bound.result c.in_ok-left.left _ (constant_of (times (to_z w64 (of_z w64 m)) found.places)) (constant_of (times m found.places))
          (to_z-of_z w128 c.in_ok-left.left fits)
          (rw (to_z-of_z w128 c.plus_product-bound.result wide) at c.in_ok-left.ensures.left)
          (ap (λ (k : ℤ). constant_of (times k found.places)) same) sum;
      sums_within = all_within c.args.self.now new m (variables_in c.args.self.now) found.places c.requires.form.places_fit (c.are_within.ensures.0 c.if-are_within.true) added c.requires.sums;
      bound_within = c.is_within_limit.ensures.0 c.if-is_within_limit.true;
    }

pub returns-else-are_within-clause-fault : goal.returns-else-are_within-clause-fault
returns-else-are_within-clause-fault c =
    let m = c.args.multiplier in
    let found = form_in c.args.form.now in
    let same = to_z-of_z w64 m c.ranges.multiplier in
    let new = c.add_places.new.self in
    let added = subst (λ (k : ℤ). IsAdded c.args.self.now new (times k found.places)) same c.in_ok-left.ensures.added in
    let fits : FitsSigned w128 c.in_ok-left.left = search rules in
    let wide : FitsSigned w128 c.plus_product-bound.result = search rules in
    let sum = product-plain c.args.bound found.bound m c.plus_product-bound.result c.ranges.bound (small-fits found.bound c.requires.form.bounded) c.ranges.multiplier c.plus_product-bound.ensures.value in
    let bound_is = bound-is m m c.args.bound found.bound c.plus_product-bound.result c.in_ok-left.left (to_z w128 (of_z w128 c.in_ok-left.left)) (constant_of (times (to_z w64 (of_z w64 m)) found.places)) (constant_of (times m found.places))
    (to_z-of_z w128 c.in_ok-left.left fits)
    (rw (to_z-of_z w128 c.plus_product-bound.result wide) at c.in_ok-left.ensures.left)
    (ap (λ (k : ℤ). constant_of (times k found.places)) same) sum in
    inr (
      refl,
      λ sums bound. elim c.else-are_within.branch [
        | else-are_within-via-then-are_within+else-is_within_limit w ↦ both_ways w.is_within_limit.result w.if-is_within_limit.false (w.is_within_limit.ensures.1 (subst IsWithinLimit (sym bound_is) bound))
        | else-are_within-via-else-are_within w ↦ both_ways c.are_within.result w.if-are_within.false (c.are_within.ensures.1 (terms_within new found.places (λ k. subst IsWithinLimit (sym (added k)) (sums k))))
      ],
    )
