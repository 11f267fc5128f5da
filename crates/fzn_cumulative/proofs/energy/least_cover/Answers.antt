use Rattle.std.proofs.Common.{rules, ap, ap₂, ◌∙◌, ℤ, w64, FitsSigned}
use Rattle.std.specs.Int.{int_min}
use Rattle.std.proofs.lemmas.Int.{to_z-of_z}
use Rattle.fzn_sets.specs.Terms.{least_value, greatest_value}
use Rattle.fzn_rules.specs.Energy.{overlap}
use Rattle.fzn_domain.proofs.DomainLemmas.{real}
use Rattle.fzn_cumulative.proofs.energy.least_cover.Goals as goal

pub returns-clause-value : goal.returns-clause-value
returns-clause-value c =
    let sets = c.args.pass.now.trail.now.sets in
    let from = c.args.span.now.from in
    let until = c.args.span.now.until in
    let fits : FitsSigned w64 c.min.result = search rules in
    let fits_early : FitsSigned w64 c.overlap-early.result = search rules in
    let fits_late : FitsSigned w64 c.overlap-late.result = search rules in
    let shortest = real _ c.least_of-shortest.ensures.in_limits ∙ c.least_of-shortest.ensures.value ∙ ap (least_value sets) c.duration.ensures.value in
    let early = c.overlap-early.ensures.value ∙ ap₂ (λ (s d : ℤ). overlap from until s d) (real _ c.least_of.ensures.in_limits ∙ c.least_of.ensures.value ∙ ap (least_value sets) c.start.ensures.value) shortest in
    let late = c.overlap-late.ensures.value ∙ ap₂ (λ (s d : ℤ). overlap from until s d) (real _ c.greatest_of.ensures.in_limits ∙ c.greatest_of.ensures.value ∙ ap (greatest_value sets) c.start-2.ensures.value) shortest in
    to_z-of_z w64 c.min.result fits ∙ c.min.ensures.value
    ∙ ap₂ (λ (a b : ℤ). int_min a b) (to_z-of_z w64 c.overlap-early.result fits_early ∙ early) (to_z-of_z w64 c.overlap-late.result fits_late ∙ late)
