use Rattle.std.proofs.Common.{rules, arith, ◌≡◌, true, ap, sym, subst, ◌∙◌, pos, ◌<ℤ◌, ◌≤ℤ◌, w64, FitsSigned}
use Rattle.std.proofs.lemmas.Int.{ints}
use Rattle.fzn_domain.specs.IntSet.{IntSet, contains, least, greatest}
use Rattle.fzn_sum.proofs.PlaceLemmas.{explained_constant, explained_up, explained_down, floor_up, floor_down, some_declared}
use Rattle.fzn_sum.proofs.at_most.floor.Goals as goal

pub returns-in_default-clause-none : goal.returns-in_default-clause-none
returns-in_default-clause-none c = explained_constant c.args.trail.now c.args.place c.in_default.field-0 c.in_default.is

pub max-requires : goal.max-requires
max-requires c = some_declared c.domain-domain.result.now c.declared-declared.result.now (search rules) (λ v h. subst (λ (s : IntSet). contains s v ≡ true) (sym c.declared-declared.ensures) (c.domain-domain.ensures.within v h))

pub min-requires : goal.min-requires
min-requires c = some_declared c.domain-domain.result.now c.declared-declared.result.now (search rules) (λ v h. subst (λ (s : IntSet). contains s v ≡ true) (sym c.declared-declared.ensures) (c.domain-domain.ensures.within v h))

pub returns-then-max-high-clause-none : goal.returns-then-max-high-clause-none
returns-then-max-high-clause-none c =
    let fits : FitsSigned w64 c.args.place.coefficient = search rules in
    let sign : c.args.place.coefficient <ℤ pos 0 = omega (arith, ints) in
    explained_down c.args.trail.now c.args.place c.in-Variable.var c.max-high.result c.max.result sign c.in-Variable.is
    (c.max-high.ensures.value ∙ ap greatest c.domain-domain.ensures.value) (c.max.ensures.value ∙ ap greatest c.declared-declared.ensures) (omega (arith, ints))

pub returns-then-low-min-clause-none : goal.returns-then-low-min-clause-none
returns-then-low-min-clause-none c =
    let fits : FitsSigned w64 c.args.place.coefficient = search rules in
    let sign : pos 0 ≤ℤ c.args.place.coefficient = omega (arith, ints) in
    explained_up c.args.trail.now c.args.place c.in-Variable.var c.min-low.result c.min.result sign c.in-Variable.is
    (c.min-low.ensures.value ∙ ap least c.domain-domain.ensures.value) (c.min.ensures.value ∙ ap least c.declared-declared.ensures) (omega (arith, ints))

pub returns-else-max-high-clause-found : goal.returns-else-max-high-clause-found
returns-else-max-high-clause-found c =
    let fits : FitsSigned w64 c.args.place.coefficient = search rules in
    let sign : c.args.place.coefficient <ℤ pos 0 = omega (arith, ints) in
    floor_down c.args.trail.now c.args.place c.in-Variable.var c.max-high.result _ sign c.in-Variable.is
    (c.max-high.ensures.value ∙ ap greatest c.domain-domain.ensures.value) c.max-high.ensures.in_limits (omega (arith, ints))

pub returns-else-low-min-clause-found : goal.returns-else-low-min-clause-found
returns-else-low-min-clause-found c =
    let fits : FitsSigned w64 c.args.place.coefficient = search rules in
    let sign : pos 0 ≤ℤ c.args.place.coefficient = omega (arith, ints) in
    floor_up c.args.trail.now c.args.place c.in-Variable.var c.min-low.result _ sign c.in-Variable.is
    (c.min-low.ensures.value ∙ ap least c.domain-domain.ensures.value) c.min-low.ensures.in_limits (omega (arith, ints))
