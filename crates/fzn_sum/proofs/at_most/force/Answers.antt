use Rattle.std.proofs.Common.{rules, arith, ℕ, subst, ◌≤◌, ◌≡◌, ◌*◌, ◌/◌, ◌<◌, refl, ap, ◌∙◌, pos, ◌-ℤ◌, ◌<ℤ◌, ◌≤ℤ◌, ℤ, w64, to_z, of_z, FitsSigned, unsigned_abs}
use Rattle.std.proofs.lemmas.Int.{ints, to_z-of_z}
use Rattle.fzn_domain.specs.Limits.{IsInLimits}
use Rattle.fzn_domain.specs.Narrow.{set_of}
use Rattle.fzn_sum.proofs.ProductLemmas.{some_times, stepped}
use Rattle.fzn_sum.proofs.PlaceLemmas.{spread_constant, spread_near, forced_up, forced_down, HasEnds, ends_of}
use Rattle.fzn_sum.proofs.at_most.force.Goals as goal

wide_cast : (high low : ℤ) → IsInLimits high → IsInLimits low → unsigned_abs (to_z w64 (of_z w64 (to_z w64 (of_z w64 high) -ℤ to_z w64 (of_z w64 low)))) ≡ unsigned_abs (high -ℤ low)
wide_cast high low a b = let e : to_z w64 (of_z w64 (to_z w64 (of_z w64 high) -ℤ to_z w64 (of_z w64 low))) ≡ high -ℤ low = omega (arith, ints) in ap unsigned_abs e

pub returns-in_default-clause-none : goal.returns-in_default-clause-none
returns-in_default-clause-none c = spread_constant c.args.trail.now.sets c.args.place c.in_default.field-0 c.args.slack c.in_default.is

pub overflow_cast-high : goal.overflow_cast-high
overflow_cast-high c =
    let l = c.min-low.ensures.in_limits in
    let h = c.max-high.ensures.in_limits in
    let o = c.min-low.ensures.first c.max-high.result c.max-high.ensures.member in
    (grind (arith, ints), grind (arith, ints))

pub returns-then-magnitude-width-clause-none : goal.returns-then-magnitude-width-clause-none
returns-then-magnitude-width-clause-none c =
    let fits : FitsSigned w64 c.args.place.coefficient = search rules in
    let size : c.from-magnitude.result ≡ unsigned_abs c.args.place.coefficient = c.from-magnitude.ensures ∙ c.unsigned_abs.ensures.value ∙ ap unsigned_abs (to_z-of_z w64 c.args.place.coefficient fits) in
    let wide : c.from-width.result ≡ unsigned_abs (c.max-high.result -ℤ c.min-low.result) = c.from-width.ensures ∙ wide_cast c.max-high.result c.min-low.result c.max-high.ensures.in_limits c.min-low.ensures.in_limits in
    let ends : HasEnds (set_of c.args.trail.now.sets c.in-Variable.var) c.min-low.result c.max-high.result =
    ends_of c.domain-domain.result.now _ c.min-low.result c.max-high.result c.domain-domain.ensures.value c.min-low.ensures.value c.max-high.ensures.value c.min-low.ensures.member c.max-high.ensures.member c.min-low.ensures.in_limits c.max-high.ensures.in_limits in
    spread_near c.args.trail.now.sets c.args.place c.args.slack c.in-Variable.var c.min-low.result c.max-high.result c.in-Variable.is ends
    (subst (λ (n : ℕ). n * unsigned_abs (c.max-high.result -ℤ c.min-low.result) ≤ c.args.slack) size (subst (λ (d : ℕ). c.from-magnitude.result * d ≤ c.args.slack) wide c.if-magnitude-width.true))

pub overflow_sub-result : goal.overflow_sub-result
overflow_sub-result c =
    let wide : c.from-width.result ≡ unsigned_abs (c.max-high.result -ℤ c.min-low.result) = c.from-width.ensures ∙ wide_cast c.max-high.result c.min-low.result c.max-high.ensures.in_limits c.min-low.ensures.in_limits in
    let far : c.args.slack / c.from-magnitude.result < c.from-width.result = stepped c.from-magnitude.result c.from-width.result c.args.slack c.if-magnitude-width.false in
    let limits_low = c.min-low.ensures.in_limits in
    let limits_high = c.max-high.ensures.in_limits in
    grind (arith, ints)

pub overflow_add-result : goal.overflow_add-result
overflow_add-result c =
    let wide : c.from-width.result ≡ unsigned_abs (c.max-high.result -ℤ c.min-low.result) = c.from-width.ensures ∙ wide_cast c.max-high.result c.min-low.result c.max-high.ensures.in_limits c.min-low.ensures.in_limits in
    let far : c.args.slack / c.from-magnitude.result < c.from-width.result = stepped c.from-magnitude.result c.from-width.result c.args.slack c.if-magnitude-width.false in
    let limits_low = c.min-low.ensures.in_limits in
    let limits_high = c.max-high.ensures.in_limits in
    grind (arith, ints)

pub returns-then-place-lt0-clause-found : goal.returns-then-place-lt0-clause-found
returns-then-place-lt0-clause-found c =
    let fits : FitsSigned w64 c.args.place.coefficient = search rules in
    let size : c.from-magnitude.result ≡ unsigned_abs c.args.place.coefficient = c.from-magnitude.ensures ∙ c.unsigned_abs.ensures.value ∙ ap unsigned_abs (to_z-of_z w64 c.args.place.coefficient fits) in
    let wide : c.from-width.result ≡ unsigned_abs (c.max-high.result -ℤ c.min-low.result) = c.from-width.ensures ∙ wide_cast c.max-high.result c.min-low.result c.max-high.ensures.in_limits c.min-low.ensures.in_limits in
    let ends : HasEnds (set_of c.args.trail.now.sets c.in-Variable.var) c.min-low.result c.max-high.result =
    ends_of c.domain-domain.result.now _ c.min-low.result c.max-high.result c.domain-domain.ensures.value c.min-low.ensures.value c.max-high.ensures.value c.min-low.ensures.member c.max-high.ensures.member c.min-low.ensures.in_limits c.max-high.ensures.in_limits in
    let far : c.args.slack / c.from-magnitude.result < c.from-width.result = stepped c.from-magnitude.result c.from-width.result c.args.slack c.if-magnitude-width.false in
    let limits_low = c.min-low.ensures.in_limits in
    let limits_high = c.max-high.ensures.in_limits in
    let sign : c.args.place.coefficient <ℤ pos 0 = omega (arith, ints) in
    forced_down c.args.trail.now c.args.place c.args.slack c.in-Variable.var c.min-low.result c.max-high.result _ c.from-magnitude.result (c.args.slack / c.from-magnitude.result) sign c.in-Variable.is ends size (some_times c.from-magnitude.result c.from-width.result c.args.slack c.if-magnitude-width.false) refl (omega arith) (omega (arith, ints))

pub returns-else-place-lt0-clause-found : goal.returns-else-place-lt0-clause-found
returns-else-place-lt0-clause-found c =
    let fits : FitsSigned w64 c.args.place.coefficient = search rules in
    let size : c.from-magnitude.result ≡ unsigned_abs c.args.place.coefficient = c.from-magnitude.ensures ∙ c.unsigned_abs.ensures.value ∙ ap unsigned_abs (to_z-of_z w64 c.args.place.coefficient fits) in
    let wide : c.from-width.result ≡ unsigned_abs (c.max-high.result -ℤ c.min-low.result) = c.from-width.ensures ∙ wide_cast c.max-high.result c.min-low.result c.max-high.ensures.in_limits c.min-low.ensures.in_limits in
    let ends : HasEnds (set_of c.args.trail.now.sets c.in-Variable.var) c.min-low.result c.max-high.result =
    ends_of c.domain-domain.result.now _ c.min-low.result c.max-high.result c.domain-domain.ensures.value c.min-low.ensures.value c.max-high.ensures.value c.min-low.ensures.member c.max-high.ensures.member c.min-low.ensures.in_limits c.max-high.ensures.in_limits in
    let far : c.args.slack / c.from-magnitude.result < c.from-width.result = stepped c.from-magnitude.result c.from-width.result c.args.slack c.if-magnitude-width.false in
    let limits_low = c.min-low.ensures.in_limits in
    let limits_high = c.max-high.ensures.in_limits in
    let sign : pos 0 ≤ℤ c.args.place.coefficient = omega (arith, ints) in
    forced_up c.args.trail.now c.args.place c.args.slack c.in-Variable.var c.min-low.result c.max-high.result _ c.from-magnitude.result (c.args.slack / c.from-magnitude.result) sign c.in-Variable.is ends size (some_times c.from-magnitude.result c.from-width.result c.args.slack c.if-magnitude-width.false) refl (omega arith) (omega (arith, ints))
