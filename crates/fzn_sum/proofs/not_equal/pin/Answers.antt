use Rattle.std.proofs.Common.{rules, arith, ◌≡◌, ◌≢◌, true, ap, sym, subst, ◌∙◌, pos, w64, FitsSigned}
use Rattle.std.proofs.lemmas.Int.{ints}
use Rattle.fzn_domain.specs.IntSet.{IntSet, contains, least, greatest}
use Rattle.fzn_sum.proofs.PinLemmas.{pinned_constant, pinned_zero, pinned_declared, pin_is}
use Rattle.fzn_sum.proofs.PlaceLemmas.{some_declared}
use Rattle.fzn_sum.proofs.not_equal.pin.Goals as goal

pub returns-in_default-clause-none : goal.returns-in_default-clause-none
returns-in_default-clause-none c = pinned_constant c.args.trail.now c.args.place c.in_default.field-0 c.in_default.is

pub returns-then-place-eq0-clause-none : goal.returns-then-place-eq0-clause-none
returns-then-place-eq0-clause-none c =
    let fits : FitsSigned w64 c.args.place.coefficient = search rules in
    pinned_zero c.args.trail.now c.args.place (omega (arith, ints))

pub min-requires : goal.min-requires
min-requires c = some_declared c.domain.result.now c.declared-declared.result.now (search rules) (λ v h. subst (λ (s : IntSet). contains s v ≡ true) (sym c.declared-declared.ensures) (c.domain.ensures.within v h))

pub max-requires : goal.max-requires
max-requires c = some_declared c.domain.result.now c.declared-declared.result.now (search rules) (λ v h. subst (λ (s : IntSet). contains s v ≡ true) (sym c.declared-declared.ensures) (c.domain.ensures.within v h))

pub returns-then-min-max-clause-none : goal.returns-then-min-max-clause-none
returns-then-min-max-clause-none c =
    let fits : FitsSigned w64 c.args.place.coefficient = search rules in
    let some : c.args.place.coefficient ≢ pos 0 = omega (arith, ints) in
    let limits_low = c.min.ensures.in_limits in
    let limits_high = c.max.ensures.in_limits in
    pinned_declared c.args.trail.now c.args.place c.in-Variable.var c.min-value.result c.min.result c.max.result c.in-Variable.is some c.requires.one
    (c.min-value.ensures.value ∙ ap least c.domain.ensures.value) (c.domain.ensures.within c.min-value.result c.min-value.ensures.member)
    (c.min.ensures.value ∙ ap least c.declared-declared.ensures) (c.max.ensures.value ∙ ap greatest c.declared-declared.ensures) (omega (arith, ints))

pub returns-clause-found : goal.returns-clause-found
returns-clause-found c =
    let fits : FitsSigned w64 c.args.place.coefficient = search rules in
    let some : c.args.place.coefficient ≢ pos 0 = omega (arith, ints) in
    let limits = c.min-value.ensures.in_limits in
    pin_is c.args.trail.now c.args.place c.in-Variable.var c.min-value.result _ c.in-Variable.is some c.requires.one
    (c.min-value.ensures.value ∙ ap least c.domain.ensures.value) c.min-value.ensures.in_limits (omega (arith, ints))
