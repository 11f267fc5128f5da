use Rattle.std.proofs.Common.{◌≡◌, ◌⊎◌, ◌==◌, false, [], Option, unwrap_or, sym, subst}
use Rattle.std.specs.Prelude.{slice_index}
use Rattle.fzn_cert.specs.declared.step.Step.{Step}
use Rattle.fzn_cert.specs.declared.step.Step.TheVariants.{Delete}
use Rattle.fzn_cert.specs.Spelling.{step_text}
use Rattle.fzn_core.specs.Planned.{renumbered}
use Rattle.fzn_core.proofs.TrialLemmas.{stays}
use Rattle.fzn_core.proofs.plan.line_that_stays.Goals as goal

pub returns-else-is_renumbered : goal.returns-else-is_renumbered
returns-else-is_renumbered c = λ numbers.
    let text = c.in_ok-text.text.now in
    let found = c.in_ok-text.ensures.text in
    let constraints = c.args.constraints.now in
    let test : (slice_index text 0 == 114) ≡ false = c.is_renumbered.ensures.resolution c.if-is_renumbered.false in
    let other : ((slice_index text 0 == 105) ≡ false) ⊎ (constraints ≡ []) = c.is_renumbered.ensures.inference c.if-is_renumbered.false in
    subst (λ (held : Option Step). text ≡ step_text (renumbered constraints numbers (unwrap_or held (Delete [])))) (sym found.1) (stays constraints numbers found.0 text found.2 test other)
