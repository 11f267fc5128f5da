use Rattle.std.proofs.Common.{◌≡◌, ◌+◌, List, refl, ap, sym, subst, ◌∙◌, IfSome, unwrap_or, false, arith}
use Rattle.std.specs.Prelude.{IfNone}
use Rattle.std.proofs.lemmas.Result.{err_from_is_err_and}
use Rattle.fzn_cert.specs.declared.step.Step.{Step}
use Rattle.fzn_cert.specs.Accepted.{IsAccepted, IsJudged}
use Rattle.fzn_cert.specs.Past.{StepsPast, no_past}
use Rattle.fzn_cert.specs.Verdict.{Outcome, refused}
use Rattle.fzn_cert_reader.specs.Reader.{progress, GivesStep, Ends}
use Rattle.fzn_checker.specs.Checked.{ComesTo, IsMidway, Offers, Accepts}
use Rattle.fzn_checker.specs.Held.{HasTaken}
use Rattle.fzn_checker.proofs.FaultLaws.{fault-weaker}
use Rattle.fzn_checker.proofs.HoldLemmas.{HasReadSteps, read-none, read-more, spelled-two, steps-end}
use Rattle.fzn_checker.proofs.hold.hold_steps.Goals as goal

pub returns-in_err-step-clause-err : goal.returns-in_err-step-clause-err
returns-in_err-step-clause-err g c =
    let p = err_from_is_err_and c.from_residual-in_err-step.result c.from_residual-in_err-step.ensures.1 in
    rw (p.1, p.2)
    (fault-weaker (ComesTo c.args.model.now c.loop-steps.taken.history (progress g.C.Read.remaining c.loop-steps.cert)) (ComesTo c.args.model.now no_past (progress g.C.Read.remaining c.args.cert.now)) c.in_err-step.field-0.0
    c.loop-steps.invariant.goes_on c.in_err-step.ensures.err)

-- the fault of a step is that of its line
pub returns-in-Some-2-clause-err : goal.returns-in-Some-2-clause-err
returns-in-Some-2-clause-err g c =
    let model = c.args.model.now in
    let past = c.loop-steps.taken.history in
    let old = progress g.C.Read.remaining c.loop-steps.cert in
    let new = progress g.C.Read.remaining c.next_step.new.reader in
    let offers : Offers model past old new c.in-Some.step = subst (λ o. IfSome o (Offers model past old new)) c.in-Some.is c.in_ok-step.ensures.step in
    let refusal = c.in-Some-2.refusal in
    subst (λ n. ComesTo model no_past (progress g.C.Read.remaining c.args.cert.now) (refused n refusal)) (sym c.loop-steps.invariant.line)
    (c.loop-steps.invariant.goes_on (refused _ refusal) (offers.refuses refusal (subst (IsJudged model past c.in-Some.step) c.in-Some-2.is c.in_ok-refusal.ensures.judged)))

pub push-requires : goal.push-requires
push-requires g c =
    let old = progress g.C.Read.remaining c.loop-steps.cert in
    let new = progress g.C.Read.remaining c.next_step.new.reader in
    let gives : GivesStep old new c.in-Some.step = subst (λ o. IfSome o (GivesStep old new)) c.in-Some.is c.in_ok-step.ensures.gives in
    spelled-two gives.header.version c.in-Some.step gives.has_line.0

pub take-requires-clause-spelled : goal.take-requires-clause-spelled
take-requires-clause-spelled g c =
    let old = progress g.C.Read.remaining c.loop-steps.cert in
    let new = progress g.C.Read.remaining c.next_step.new.reader in
    let gives : GivesStep old new c.in-Some.step = subst (λ o. IfSome o (GivesStep old new)) c.in-Some.is c.in_ok-step.ensures.gives in
    spelled-two gives.header.version c.in-Some.step gives.has_line.0

pub loop-steps-init : goal.loop-steps-init
loop-steps-init g c =
    let model = c.args.model.now in
    let now = progress g.C.Read.remaining c.args.cert.now in
    let past : c.in_ok-taken.taken.history ≡ no_past = c.in_ok-taken.ensures.past in
    record {
      midway = subst (λ (p : StepsPast). IsMidway model p now) (sym past) c.requires.midway;
      line = omega (arith, c.requires.no_steps);
      goes_on = λ outcome h. subst (λ (p : StepsPast). ComesTo model p now outcome) past h;
      taken = subst (λ (all : List Step). HasTaken model all c.in_ok-taken.taken) (sym c.new-steps.ensures) c.in_ok-taken.ensures;
      read = subst (λ (all : List Step). HasReadSteps now now all) (sym c.new-steps.ensures) (read-none now c.requires.begun c.requires.no_steps);
    }

pub loop-steps-preserved : goal.loop-steps-preserved
loop-steps-preserved g c =
    let model = c.args.model.now in
    let past = c.loop-steps.taken.history in
    let first = progress g.C.Read.remaining c.args.cert.now in
    let old = progress g.C.Read.remaining c.loop-steps.cert in
    let new = progress g.C.Read.remaining c.next_step.new.reader in
    let step = c.in-Some.step in
    let steps = c.loop-steps.steps in
    let none = c.in_default-2.is in
    let offers : Offers model past old new step = subst (λ o. IfSome o (Offers model past old new)) c.in-Some.is c.in_ok-step.ensures.step in
    let gives : GivesStep old new step = subst (λ o. IfSome o (GivesStep old new)) c.in-Some.is c.in_ok-step.ensures.gives in
    let accepted : IsAccepted model past step = subst (IsJudged model past step) none c.in_ok-refusal.ensures.judged in
    let after = c.in_ok-refusal.ensures.after none in
    let more = c.in_ok-push.ensures.ok in
    let line : c.loop-steps.line ≡ old.steps + 3 = c.loop-steps.invariant.line in
    let counted : new.steps ≡ old.steps + 1 = offers.counted in
    record {
      midway = subst (λ (p : StepsPast). IsMidway model p new) (sym after) offers.midway;
      line = omega (arith, line, counted);
      goes_on = λ outcome standing. c.loop-steps.invariant.goes_on outcome (offers.goes_on accepted outcome (subst (λ (p : StepsPast). ComesTo model p new outcome) after standing));
      taken = subst (λ (all : List Step). HasTaken model all c.take.new.self) (sym more) (c.in_ok-refusal.ensures.taken none steps c.loop-steps.invariant.taken);
      read = subst (λ (all : List Step). HasReadSteps first new all) (sym more) (read-more first old new steps step c.loop-steps.invariant.read gives c.next_step.ensures.same_header);
    }

pub returns-clause-ok : goal.returns-clause-ok
returns-clause-ok g c =
    let model = c.args.model.now in
    let past = c.loop-steps.taken.history in
    let old = progress g.C.Read.remaining c.loop-steps.cert in
    let new = progress g.C.Read.remaining c.next_step.new.reader in
    let accepts : Accepts model past old new = subst (λ o. IfNone o (Accepts model past old new)) c.in_default.is c.in_ok-step.ensures.end in
    let ends : Ends old new = subst (λ o. IfNone o (Ends old new)) c.in_default.is c.in_ok-step.ensures.ends in
    steps-end model (progress g.C.Read.remaining c.args.cert.now) c.loop-steps.steps c.loop-steps.taken old new _ c.loop-steps.invariant.taken c.loop-steps.invariant.read accepts ends
    refl c.into_solutions.ensures
    (c.unwrap_or.ensures ∙ ap (λ o. unwrap_or o false) c.closed.ensures)
