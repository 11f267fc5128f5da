use Rattle.std.proofs.Common.{◌≡◌, ◌+◌, ap, sym, subst, ◌∙◌, IfSome, unwrap_or, false, arith}
use Rattle.std.specs.Prelude.{IfNone}
use Rattle.std.proofs.lemmas.Result.{err_from_is_err_and}
use Rattle.fzn_cert.specs.Accepted.{IsAccepted, IsJudged}
use Rattle.fzn_cert.specs.Past.{StepsPast, no_past}
use Rattle.fzn_cert.specs.Verdict.{refused}
use Rattle.fzn_cert_reader.specs.Reader.{progress, GivesStep, Ends}
use Rattle.fzn_checker.specs.Checked.{ComesTo, IsMidway, Offers, Accepts}
use Rattle.fzn_checker.specs.Held.{past_in}
use Rattle.fzn_checker.proofs.CallerLemmas.{fault-weaker, spelled-two}
use Rattle.fzn_bound.proofs.WalkLemmas.{IsOnWay, way-start, way-more, way-end}
use Rattle.fzn_bound.proofs.certificate.walk_steps.Goals as goal

pub returns-in_err-step-clause-err : goal.returns-in_err-step-clause-err
returns-in_err-step-clause-err g c =
    let p = err_from_is_err_and c.from_residual-in_err-step.result c.from_residual-in_err-step.ensures.1 in
    rw (p.1, p.2)
    (fault-weaker (ComesTo c.args.model.now (past_in c.loop-taken.taken) (progress g.C.Read.remaining c.loop-taken.cert)) (ComesTo c.args.model.now no_past (progress g.C.Read.remaining c.args.cert.now)) c.in_err-step.field-0.0
    c.loop-taken.invariant.goes_on c.in_err-step.ensures.err)

-- the fault of a step is that of its line
pub returns-in-Some-2-clause-err : goal.returns-in-Some-2-clause-err
returns-in-Some-2-clause-err g c =
    let model = c.args.model.now in
    let past = past_in c.loop-taken.taken in
    let old = progress g.C.Read.remaining c.loop-taken.cert in
    let new = progress g.C.Read.remaining c.next_step.new.cert in
    let offers : Offers model past old new c.in-Some.step = subst (λ o. IfSome o (Offers model past old new)) c.in-Some.is c.in_ok-step.ensures.step in
    let refusal = c.in-Some-2.refusal in
    subst (λ n. ComesTo model no_past (progress g.C.Read.remaining c.args.cert.now) (refused n refusal)) (sym c.loop-taken.invariant.line)
    (c.loop-taken.invariant.goes_on (refused _ refusal) (offers.refuses refusal (subst (IsJudged model past c.in-Some.step) c.in-Some-2.is c.in_ok-refusal.ensures.judged)))

pub take-requires-clause-spelled : goal.take-requires-clause-spelled
take-requires-clause-spelled g c =
    let old = progress g.C.Read.remaining c.loop-taken.cert in
    let new = progress g.C.Read.remaining c.next_step.new.cert in
    let gives : GivesStep old new c.in-Some.step = subst (λ o. IfSome o (GivesStep old new)) c.in-Some.is c.in_ok-step.ensures.gives in
    spelled-two gives.header.version c.in-Some.step gives.has_line.0

pub loop-taken-init : goal.loop-taken-init
loop-taken-init g c =
    let model = c.args.model.now in
    let now = progress g.C.Read.remaining c.args.cert.now in
    let taken = c.in_ok-taken.taken in
    let past : past_in taken ≡ no_past = c.in_ok-taken.ensures.past in
    record {
      midway = subst (λ (p : StepsPast). IsMidway model p now) (sym past) c.requires.midway;
      line = omega (arith, c.requires.no_steps);
      goes_on = λ outcome h. subst (λ (p : StepsPast). ComesTo model p now outcome) past h;
      ready = c.in_ok-taken.ensures.ready;
      way = way-start model now taken c.declared_bound-bound.result c.requires.begun c.requires.no_steps c.in_ok-taken.ensures c.declared_bound-bound.ensures;
    }

pub loop-taken-preserved : goal.loop-taken-preserved
loop-taken-preserved g c =
    let model = c.args.model.now in
    let past = past_in c.loop-taken.taken in
    let first = progress g.C.Read.remaining c.args.cert.now in
    let old = progress g.C.Read.remaining c.loop-taken.cert in
    let new = progress g.C.Read.remaining c.next_step.new.cert in
    let step = c.in-Some.step in
    let none = c.in_default-2.is in
    let offers : Offers model past old new step = subst (λ o. IfSome o (Offers model past old new)) c.in-Some.is c.in_ok-step.ensures.step in
    let gives : GivesStep old new step = subst (λ o. IfSome o (GivesStep old new)) c.in-Some.is c.in_ok-step.ensures.gives in
    let accepted : IsAccepted model past step = subst (IsJudged model past step) none c.in_ok-refusal.ensures.judged in
    let after = c.in_ok-refusal.ensures.after none in
    let line : c.loop-taken.line ≡ old.steps + 3 = c.loop-taken.invariant.line in
    let counted : new.steps ≡ old.steps + 1 = offers.counted in
    record {
      midway = subst (λ (p : StepsPast). IsMidway model p new) (sym after) offers.midway;
      line = omega (arith, line, counted);
      goes_on = λ outcome standing. c.loop-taken.invariant.goes_on outcome (offers.goes_on accepted outcome (subst (λ (p : StepsPast). ComesTo model p new outcome) after standing));
      ready = c.in_ok-refusal.ensures.ready none;
      way = subst (IsOnWay model first new c.take.new.self) (sym c.bound_after-next_bound.ensures)
          (way-more model first old new c.loop-taken.taken c.take.new.self c.loop-taken.bound step c.loop-taken.invariant.way gives c.next_step.ensures.same_header (c.in_ok-refusal.ensures.taken none));
    }

pub returns-clause-ok : goal.returns-clause-ok
returns-clause-ok g c =
    let model = c.args.model.now in
    let past = past_in c.loop-taken.taken in
    let old = progress g.C.Read.remaining c.loop-taken.cert in
    let new = progress g.C.Read.remaining c.next_step.new.cert in
    let accepts : Accepts model past old new = subst (λ o. IfNone o (Accepts model past old new)) c.in_default.is c.in_ok-step.ensures.end in
    let ends : Ends old new = subst (λ o. IfNone o (Ends old new)) c.in_default.is c.in_ok-step.ensures.ends in
    way-end model (progress g.C.Read.remaining c.args.cert.now) old new _ c.loop-taken.invariant.way accepts ends
    (c.unwrap_or.ensures ∙ ap (λ o. unwrap_or o false) c.closed.ensures)

pub returns-clause-found : goal.returns-clause-found
returns-clause-found g c = c.loop-taken.invariant.ready.ready.sound.solutions
