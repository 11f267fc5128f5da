use Rattle.std.proofs.Common.{ap, sym, subst, ◌∙◌, IfSome, unwrap_or, false}
use Rattle.std.specs.Prelude.{IfNone}
use Rattle.std.proofs.lemmas.Result.{err_from_is_err_and}
use Rattle.fzn_meaning.specs.Solutions.{IsProper, IsExhausted}
use Rattle.fzn_cert.specs.Accepted.{IsJudged}
use Rattle.fzn_cert_reader.specs.Reader.{progress}
use Rattle.fzn_cert.specs.Past.{no_past}
use Rattle.fzn_cert.specs.Verdict.{accepted, refused}
use Rattle.fzn_cert.proofs.SoundLaws.{proper-sound, exhausted-sound}
use Rattle.fzn_checker.specs.Checked.{ComesTo, Offers, Accepts}
use Rattle.fzn_checker.proofs.FaultLaws.{fault-weaker, found-accepted, found-refuted}
use Rattle.fzn_checker.proofs.certificate.check_steps.Goals as goal

pub returns-in_err-step-clause-err : goal.returns-in_err-step-clause-err
returns-in_err-step-clause-err g c =
    let p = err_from_is_err_and c.from_residual-in_err-step.result c.from_residual-in_err-step.ensures.1 in
    rw (p.1, p.2)
    (fault-weaker (ComesTo c.args.model.now c.loop-given.history (progress g.C.Read.remaining c.loop-given.cert)) (ComesTo c.args.model.now no_past (progress g.C.Read.remaining c.args.cert.now)) c.in_err-step.field-0.0
    c.loop-given.invariant.goes_on c.in_err-step.ensures.err)

-- the fault of a step is that of its line
pub returns-in-Some-refusal-clause-err : goal.returns-in-Some-refusal-clause-err
returns-in-Some-refusal-clause-err g c =
    let model = c.args.model.now in
    let past = c.loop-given.history in
    let old = progress g.C.Read.remaining c.loop-given.cert in
    let new = progress g.C.Read.remaining c.next_step.new.reader in
    let offers : Offers model past old new c.in-Some.step = subst (λ o. IfSome o (Offers model past old new)) c.in-Some.is c.in_ok-step.ensures.step in
    let refusal = c.in-Some-refusal.refusal in
    subst (λ n. ComesTo model no_past (progress g.C.Read.remaining c.args.cert.now) (refused n refusal)) (sym c.loop-given.invariant.line)
    (c.loop-given.invariant.goes_on (refused _ refusal) (offers.refuses refusal (subst (IsJudged model past c.in-Some.step) c.in-Some-refusal.is c.in_ok-refusal.ensures.judged)))

pub returns-clause-ok : goal.returns-clause-ok
returns-clause-ok g c =
    let model = c.args.model.now in
    let past = c.loop-given.history in
    let old = progress g.C.Read.remaining c.loop-given.cert in
    let new = progress g.C.Read.remaining c.next_step.new.reader in
    let accepts : Accepts model past old new = subst (λ o. IfNone o (Accepts model past old new)) c.in_default.is c.in_ok-step.ensures.end in
    subst (λ found. ComesTo model no_past (progress g.C.Read.remaining c.args.cert.now) (accepted found c.unwrap_or.result)) (sym c.into_solutions.ensures)
    (found-accepted (ComesTo model no_past (progress g.C.Read.remaining c.args.cert.now)) model past old new c.unwrap_or.result c.loop-given.invariant.goes_on accepts
    (c.unwrap_or.ensures ∙ ap (λ o. unwrap_or o false) c.closed.ensures))

pub returns-clause-proper : goal.returns-clause-proper
returns-clause-proper g c =
    subst (IsProper c.args.model.now) (sym c.into_solutions.ensures) (proper-sound c.args.model.now c.loop-given.history c.loop-given.invariant.sound)

pub returns-clause-exhausted : goal.returns-clause-exhausted
returns-clause-exhausted g c =
    let model = c.args.model.now in
    let past = c.loop-given.history in
    let old = progress g.C.Read.remaining c.loop-given.cert in
    let new = progress g.C.Read.remaining c.next_step.new.reader in
    let accepts : Accepts model past old new = subst (λ o. IfNone o (Accepts model past old new)) c.in_default.is c.in_ok-step.ensures.end in
    λ closed. subst (IsExhausted model) (sym c.into_solutions.ensures) (exhausted-sound model past c.loop-given.invariant.sound
    (found-refuted model past old new c.unwrap_or.result accepts (c.unwrap_or.ensures ∙ ap (λ o. unwrap_or o false) c.closed.ensures) closed))
