use Rattle.std.proofs.Common.{◌≡◌, ◌-◌, get_or, length, ap, ◌∙◌, sym, subst, List}
use Rattle.fzn_domain.specs.declared.literal.VarId.{VarId}
use Rattle.fzn_meaning.specs.Solutions.{IsBetter}
use Rattle.fzn_checker.specs.Given.{given_by, is_given}
use Rattle.fzn_checker.proofs.GivenLemmas.{passes-new, new-passes, not-false, false-not}
use Rattle.fzn_meaning.proofs.CallerLemmas.{passes-better, better-passes}
use Rattle.fzn_checker.proofs.solution.passes_cuts.Goals as goal

pub returns-in-Some : goal.returns-in-Some
returns-in-Some c =
    let model = c.args.model.now in
    let is : get_or c.args.found.now (length c.args.found.now - 1) c.in-Some.last.now ≡ c.in-Some.last.now = sym c.in-Some.ensures.item.1 in (
      λ told. passes-better model.goal model.outputs c.args.found.now c.in-Some.last.now c.args.values.now c.in_default.not-Satisfy c.requires.cuts is
          (subst (IsBetter model c.args.values.now) c.as_slice-in-Some.ensures (c.better.ensures.0 told)),
      λ passes. c.better.ensures.1 (subst (IsBetter model c.args.values.now) (sym c.as_slice-in-Some.ensures)
          (better-passes model.goal model.outputs c.args.found.now c.in-Some.last.now c.args.values.now c.in_default.not-Satisfy c.in-Some.ensures.item.3.0 is passes)),
    )

pub returns-in_ok-own-in-Satisfy : goal.returns-in_ok-own-in-Satisfy
returns-in_ok-own-in-Satisfy c =
    let model = c.args.model.now in
    let own = c.as_slice-in-Satisfy.ensures.value ∙ c.in_ok-own-in-Satisfy.ensures ∙ ap (λ (vars : List VarId). given_by vars c.args.values.now) c.as_slice.ensures in
    let same : c.has.result ≡ is_given c.args.given.now (given_by c.args.model.now.outputs c.args.values.now) = c.has.ensures ∙ ap (is_given c.args.given.now) own in (
      λ told. passes-new model c.args.found.now c.args.given.now c.args.values.now c.in-Satisfy.is c.requires.given (sym same ∙ false-not c.has.result told),
      λ passes. not-false c.has.result (same ∙ new-passes model c.args.found.now c.args.given.now c.args.values.now c.in-Satisfy.is c.requires.given passes),
    )
