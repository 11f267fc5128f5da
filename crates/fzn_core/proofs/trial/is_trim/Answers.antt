use Rattle.std.proofs.Common.{◌≡◌, ◌+◌, ◌<◌, ◌≤◌, Bool, true, false, List, [], ◌∷◌, ◌++◌, length, map, take, refl, ap, sym, subst, ◌∙◌, arith}
use Rattle.std.specs.Bool.{OnTrue}
use Rattle.std.proofs.lemmas.List.{length-map, length-take-le, map_more, take_all}
use Rattle.fzn_cert.specs.declared.step.Step.{Step}
use Rattle.fzn_cert.specs.declared.step.Version.TheVariants.{Two}
use Rattle.fzn_cert.specs.Spelling.{HasLine}
use Rattle.fzn_cert.specs.Verdict.{AllHaveLines}
use Rattle.fzn_checker.specs.Held.{HasTaken}
use Rattle.fzn_core.specs.declared.plan.Line.{Line}
use Rattle.fzn_core.specs.Kept.{IsTrimOf}
use Rattle.fzn_core.specs.Planned.{planned, planned_step}
use Rattle.fzn_core.proofs.TrialLemmas.{lines-more, trim-of_taken}
use Rattle.fzn_core.proofs.trial.is_trim.Goals as goal

on-true : (b : Bool) (Fact : Type 0) → (b ≡ true → Fact) → OnTrue b Fact
on-true true Fact h = h refl
on-true false Fact h = tt

of-true : (b : Bool) (Fact : Type 0) → OnTrue b Fact → b ≡ true → Fact
of-true true Fact h is = h
of-true false Fact h is = cc

-- the step of one line more is taken
pub loop-before-preserved : goal.loop-before-preserved
loop-before-preserved c =
    let model = c.args.model.now in
    let step_of = planned_step c.args.plan.now c.args.held.now.steps in
    let lines = c.args.plan.now.lines.items in
    let i = c.loop-before.before in
    let line = c.index-line.result.now in
    let old = c.loop-before.taken in
    let new = c.takes.new.taken in
    let so_far = map step_of (take i lines) in
    let yes : c.in_ok-takes.field-0 ≡ true = c.if-not-branch.false in
    let within : i < length lines = omega (arith, c.args.plan.now.lines.ok.0, c.len-before-end.ensures) in
    let more : map step_of (take (i + 1) lines) ≡ so_far ++ step_of line ∷ [] =
    map_more step_of lines i line within ∙ ap (λ (l : Line). so_far ++ step_of l ∷ []) (sym c.index-line.ensures) in
    let count : length so_far ≡ i = length-map (take i lines) step_of ∙ length-take-le i lines (omega (arith, within)) in
    let taken : HasTaken model (so_far ++ step_of line ∷ []) new =
    of-true c.in_ok-takes.field-0 ((steps : List Step) → HasTaken model steps old → HasTaken model (steps ++ step_of line ∷ []) new) c.in_ok-takes.ensures.taken yes so_far c.loop-before.invariant.0 in
    let has_line : HasLine Two i (step_of line) = of-true c.in_ok-takes.field-0 (HasLine Two i (step_of line)) c.in_ok-takes.ensures.line yes in (
      subst (λ (steps : List Step). HasTaken model steps new) (sym more) taken,
      subst (AllHaveLines Two 0) (sym more) (lines-more so_far (step_of line) i c.loop-before.invariant.1 count has_line),
    )

pub returns : goal.returns
returns c =
    let model = c.args.model.now in
    let held = c.args.held.now in
    let plan = c.args.plan.now in
    let lines = plan.lines.items in
    let i = c.loop-before.before in
    let past_end : length lines ≤ i = omega (arith, plan.lines.ok.0, c.len-before-end.ensures) in
    let same : map (planned_step plan held.steps) (take i lines) ≡ planned plan held.steps = ap (λ (ls : List Line). map (planned_step plan held.steps) ls) (take_all i lines past_end) in
    let taken : HasTaken model (planned plan held.steps) c.loop-before.taken = subst (λ (steps : List Step). HasTaken model steps c.loop-before.taken) same c.loop-before.invariant.0 in
    let has_lines : AllHaveLines Two 0 (planned plan held.steps) = subst (AllHaveLines Two 0) same c.loop-before.invariant.1 in
    let fewer : length (planned plan held.steps) ≤ length held.steps = omega (arith, c.len.ensures held.steps, c.len-2.ensures, c.if-len.false) in
    on-true c.has_answer.result (IsTrimOf model held (planned plan held.steps))
    (λ yes. trim-of_taken model (planned plan held.steps) c.loop-before.taken held taken has_lines (c.has_answer.ensures.solutions yes) (c.has_answer.ensures.may_end yes) fewer)
