use Rattle.std.proofs.Common.{ap₂, sym, subst, ◌∙◌, refl, IfSome}
use Rattle.std.specs.Prelude.{IfNone}
use Rattle.std.proofs.lemmas.Bool.{false≢true}
use Rattle.fzn_cert.specs.declared.refusal.Refusal.TheVariants.{NotClosed}
use Rattle.fzn_cert_reader.specs.Reader.{progress, GivesStep, Ends}
use Rattle.fzn_cert.specs.Verdict.{refused}
use Rattle.fzn_checker.specs.Checked.{IsFaultWhere, ComesTo}
use Rattle.fzn_checker.specs.Faults.{may_end, fault_after}
use Rattle.fzn_checker.proofs.FaultLaws.{counts-refused, finds-fault}
use Rattle.fzn_checker.proofs.StandingLaws.{gives-offers, ends-accepted, ends-not_closed}
use Rattle.fzn_checker.proofs.next.next_step.Goals as goal

pub returns-then-not-has_counts-clause-err : goal.returns-then-not-has_counts-clause-err
returns-then-not-has_counts-clause-err g c =
    counts-refused c.args.model.now c.args.history.now (progress g.R.Read.remaining c.args.reader.now) (progress g.R.Read.remaining c.next-next.new.self) c.next-next.result
    c.requires.midway c.next-next.ensures.same c.has_counts.ensures.sized (λ h. false≢true (c.if-not-has_counts.ensures.value.1 h))
    c.next-next.ensures.step (c.next-next.ensures.end c.requires.midway.reading) (c.next-next.ensures.err c.requires.midway.reading)

pub returns-in-Err-clause-err : goal.returns-in-Err-clause-err
returns-in-Err-clause-err g c =
    let old = progress g.R.Read.remaining c.args.reader.now in
    subst (IsFaultWhere (ComesTo c.args.model.now c.args.history.now old))
    (sym (c.fault_after.ensures ∙ ap₂ (λ o b. fault_after c.in-Err.fault o b) c.closed.ensures c.is_refuted.ensures))
    (finds-fault c.args.model.now c.args.history.now old (progress g.R.Read.remaining c.next-next.new.self) c.in-Err.fault c.requires.midway c.next-next.ensures.same
    (c.if-not-has_counts.ensures.value.0 refl) (c.in-Err.ensures.err c.requires.midway.reading))

pub returns-in-Ok-Some-clause-step : goal.returns-in-Ok-Some-clause-step
returns-in-Ok-Some-clause-step g c =
    gives-offers c.args.model.now c.args.history.now (progress g.R.Read.remaining c.args.reader.now) (progress g.R.Read.remaining c.next-next.new.self) c.in-Ok-Some.step c.requires.midway
    c.next-next.ensures.same (c.if-not-has_counts.ensures.value.0 refl)
    (subst (λ o. IfSome o (GivesStep (progress g.R.Read.remaining c.args.reader.now) (progress g.R.Read.remaining c.next-next.new.self))) c.in-Ok-Some.field-0-is c.in-Ok-Some.ensures.step)

pub returns-then-may_end-clause-end : goal.returns-then-may_end-clause-end
returns-then-may_end-clause-end g c =
    ends-accepted c.args.model.now c.args.history.now (progress g.R.Read.remaining c.args.reader.now) (progress g.R.Read.remaining c.next-next.new.self) c.requires.midway
    c.next-next.ensures.same (c.if-not-has_counts.ensures.value.0 refl)
    (subst (λ o. IfNone o (Ends (progress g.R.Read.remaining c.args.reader.now) (progress g.R.Read.remaining c.next-next.new.self))) c.in-Ok-None.field-0-is (c.in-Ok-None.ensures.end c.requires.midway.reading))
    (sym (ap₂ (λ o b. may_end o b) c.closed-in-Ok-None.ensures c.is_refuted-in-Ok-None.ensures) ∙ sym c.may_end.ensures ∙ c.if-may_end.true)

pub returns-else-may_end-clause-err : goal.returns-else-may_end-clause-err
returns-else-may_end-clause-err g c =
    let old = progress g.R.Read.remaining c.args.reader.now in
    subst (λ n. ComesTo c.args.model.now c.args.history.now old (refused n NotClosed)) (sym c.requires.line)
    (ends-not_closed c.args.model.now c.args.history.now old (progress g.R.Read.remaining c.next-next.new.self) c.requires.midway
    c.next-next.ensures.same (c.if-not-has_counts.ensures.value.0 refl)
    (subst (λ o. IfNone o (Ends (progress g.R.Read.remaining c.args.reader.now) (progress g.R.Read.remaining c.next-next.new.self))) c.in-Ok-None.field-0-is (c.in-Ok-None.ensures.end c.requires.midway.reading))
    (sym (ap₂ (λ o b. may_end o b) c.closed-in-Ok-None.ensures c.is_refuted-in-Ok-None.ensures) ∙ sym c.may_end.ensures ∙ c.if-may_end.false))
