use Rattle.std.proofs.Common.{sym, subst}
use Rattle.fzn_cert.specs.Past.{no_past}
use Rattle.fzn_cert.specs.Verdict.{accepted}
use Rattle.fzn_cert_reader.specs.Reader.{progress}
use Rattle.fzn_head.specs.Outcome.{IsOutcomeOn}
use Rattle.fzn_head.proofs.ExtendedLaws.{proper-before, exhausted-before}
use Rattle.fzn_checker.specs.Checked.{IsFaultWhere, ComesTo}
use Rattle.fzn_checker.proofs.AnswerLaws.{error-is}
use Rattle.fzn_checker.proofs.OpeningLaws.{fault-further}
use Rattle.fzn_checker.proofs.certificate.check_certificate.Goals as goal

pub returns-in_err-opening-clause-err : goal.returns-in_err-opening-clause-err
returns-in_err-opening-clause-err g c =
    error-is c.from_residual.result c.in_err-opening.field-0.0 (IsFaultWhere (IsOutcomeOn c.args.model.now (progress g.C.Read.remaining c.args.cert.now).left))
    c.from_residual.ensures.1 c.in_err-opening.ensures.err

-- what the steps come to decides
pub returns-in-Ok-clause-ok : goal.returns-in-Ok-clause-ok
returns-in-Ok-clause-ok g c = c.in_ok-opening.ensures.opened.leads (accepted c.in-Ok.answer.solutions.items c.in-Ok.answer.closed) c.in-Ok.ensures.ok

pub returns-clause-err : goal.returns-clause-err
returns-clause-err g c =
    let start = IsOutcomeOn c.args.model.now (progress g.C.Read.remaining c.args.cert.now).left in
    let opened = c.in_ok-opening.ensures.opened in
    subst (IsFaultWhere start) (sym c.further.ensures)
    (fault-further (ComesTo c.open_certificate.new.model no_past (progress g.C.Read.remaining c.open_certificate.new.cert)) start c.in_ok-opening.opening.lines c.in-Err.fault opened.leads c.in-Err.ensures.err)

-- what is found of the model with derived constraints is found of the model
pub returns-in-Ok-clause-proper : goal.returns-in-Ok-clause-proper
returns-in-Ok-clause-proper g c =
    let extended = c.open_certificate.ensures.extended in
    proper-before c.args.model.now c.open_certificate.new.model extended.0 c.requires.model extended.1 c.in-Ok.answer.solutions.items c.in-Ok.ensures.proper

pub returns-in-Ok-clause-exhausted : goal.returns-in-Ok-clause-exhausted
returns-in-Ok-clause-exhausted g c =
    let extended = c.open_certificate.ensures.extended in
    λ closed. exhausted-before c.args.model.now c.open_certificate.new.model extended.0 c.requires.model extended.1 c.in-Ok.answer.solutions.items (c.in-Ok.ensures.exhausted closed)
