use Rattle.std.proofs.Common.{IfSome, refl, sym, subst}
use Rattle.std.specs.Prelude.{IfNone}
use Rattle.std.proofs.lemmas.Bool.{false≢true}
use Rattle.fzn_cert_reader.specs.Reader.{progress}
use Rattle.fzn_cert_reader.specs.Opening.{BeginsEarly, BeginsHead}
use Rattle.fzn_head.specs.Outcome.{FitsModel, HeadVerdict, IsOutcomeOn}
use Rattle.fzn_checker.specs.Checked.{IsFaultWhere}
use Rattle.fzn_checker.proofs.AnswerLaws.{error-is}
use Rattle.fzn_checker.proofs.FaultLaws.{fault-weaker}
use Rattle.fzn_checker.proofs.OpeningLaws.{opening-fault, opened-early, none-derived, other-early, opened-head, other-head, head-verdict}
use Rattle.fzn_checker.proofs.opening.open_certificate.Goals as goal

pub returns-then-has_counts-clause-opened : goal.returns-then-has_counts-clause-opened
returns-then-has_counts-clause-opened g c =
    let old = progress g.C.Read.remaining c.args.cert.now in
    let new = progress g.C.Read.remaining c.begin.new.self in
    let begins : BeginsEarly old new = subst (λ o. IfNone o (BeginsEarly old new)) c.in-Ok-None.field-0-is c.in-Ok-None.ensures.early in
    opened-early c.args.model.now old new begins c.requires.model (c.if-has_counts.ensures.value.0 refl)

pub returns-then-has_counts-clause-held : goal.returns-then-has_counts-clause-held
returns-then-has_counts-clause-held g c = λ _. none-derived c.args.model.now c.new.result.items c.new.ensures.items

pub returns-else-has_counts-clause-err : goal.returns-else-has_counts-clause-err
returns-else-has_counts-clause-err g c =
    let old = progress g.C.Read.remaining c.args.cert.now in
    let new = progress g.C.Read.remaining c.begin.new.self in
    let begins : BeginsEarly old new = subst (λ o. IfNone o (BeginsEarly old new)) c.in-Ok-None.field-0-is c.in-Ok-None.ensures.early in
    subst (IsFaultWhere (IsOutcomeOn c.args.model.now old.left)) (sym c.other_counts.ensures)
    (other-early c.args.model.now old new begins (λ h. false≢true (c.if-has_counts.ensures.value.1 h)))

pub returns-then-not-fits-clause-err : goal.returns-then-not-fits-clause-err
returns-then-not-fits-clause-err g c =
    let old = progress g.C.Read.remaining c.args.cert.now in
    let mid = progress g.C.Read.remaining c.begin.new.self in
    let head = c.in-Ok-Some.head in
    let begins : BeginsHead old mid head = subst (λ o. IfSome o (BeginsHead old mid)) c.in-Ok-Some.field-0-is c.in-Ok-Some.ensures.third in
    subst (IsFaultWhere (IsOutcomeOn c.args.model.now old.left)) (sym c.other_counts-then-not-fits.ensures)
    (other-head c.args.model.now old mid head begins (λ h. false≢true (c.if-not-fits.ensures.1 h)))

pub returns-in_err-derivations-in-Ok-Some-clause-err : goal.returns-in_err-derivations-in-Ok-Some-clause-err
returns-in_err-derivations-in-Ok-Some-clause-err g c =
    let model = c.args.model.now in
    let old = progress g.C.Read.remaining c.args.cert.now in
    let mid = progress g.C.Read.remaining c.begin.new.self in
    let head = c.in-Ok-Some.head in
    let fault = c.in_err-derivations-in-Ok-Some.field-0.0 in
    let begins : BeginsHead old mid head = subst (λ o. IfSome o (BeginsHead old mid)) c.in-Ok-Some.field-0-is c.in-Ok-Some.ensures.third in
    let fits : FitsModel model head = c.if-not-fits.ensures.0 refl in
    error-is c.from_residual.result fault (IsFaultWhere (IsOutcomeOn model old.left)) c.from_residual.ensures.1
    (fault-weaker (HeadVerdict model head.derived mid.left) (IsOutcomeOn model old.left) fault (head-verdict model old mid head begins fits) c.in_err-derivations-in-Ok-Some.ensures.err)

pub returns-in_ok-derivations-in-Ok-Some-clause-opened : goal.returns-in_ok-derivations-in-Ok-Some-clause-opened
returns-in_ok-derivations-in-Ok-Some-clause-opened g c =
    let model = c.args.model.now in
    let old = progress g.C.Read.remaining c.args.cert.now in
    let mid = progress g.C.Read.remaining c.begin.new.self in
    let head = c.in-Ok-Some.head in
    let begins : BeginsHead old mid head = subst (λ o. IfSome o (BeginsHead old mid)) c.in-Ok-Some.field-0-is c.in-Ok-Some.ensures.third in
    let fits : FitsModel model head = c.if-not-fits.ensures.0 refl in
    opened-head model old mid head begins fits c.derive_all.new.model (progress g.C.Read.remaining c.derive_all.new.cert) c.in_ok-derivations-in-Ok-Some.ensures.ok

pub returns-in-Err-clause-err : goal.returns-in-Err-clause-err
returns-in-Err-clause-err g c =
    let old = progress g.C.Read.remaining c.args.cert.now in
    let fault = c.in-Err.fault in
    subst (IsFaultWhere (IsOutcomeOn c.args.model.now old.left)) (sym c.fault_after.ensures)
    (opening-fault c.args.model.now old.left fault.kind fault.line c.in-Err.ensures.err)
