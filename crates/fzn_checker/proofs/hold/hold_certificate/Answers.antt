use Rattle.std.proofs.Common.{IsSome, sym, subst, refl}
use Rattle.fzn_cert.specs.Past.{no_past}
use Rattle.fzn_cert_reader.specs.Reader.{progress}
use Rattle.fzn_head.specs.Outcome.{IsOutcomeOn}
use Rattle.fzn_checker.specs.Checked.{IsFaultWhere, ComesTo}
use Rattle.fzn_checker.proofs.AnswerLaws.{error-is}
use Rattle.fzn_checker.proofs.HoldLemmas.{held-of}
use Rattle.fzn_checker.proofs.OpeningLaws.{fault-further}
use Rattle.fzn_checker.proofs.hold.hold_certificate.Goals as goal

pub returns-in_err-opening-clause-err : goal.returns-in_err-opening-clause-err
returns-in_err-opening-clause-err g c =
    error-is c.from_residual.result c.in_err-opening.field-0.0 (IsFaultWhere (IsOutcomeOn c.args.model.now (progress g.C.Read.remaining c.args.cert.now).left))
    c.from_residual.ensures.1 c.in_err-opening.ensures.err

pub hold_steps-requires-clause-begun : goal.hold_steps-requires-clause-begun
hold_steps-requires-clause-begun g c = subst IsSome (sym c.in_ok-opening.ensures.opened.told) refl

pub returns-in-Ok-clause-ok : goal.returns-in-Ok-clause-ok
returns-in-Ok-clause-ok g c =
    held-of c.args.model.now c.open_certificate.new.model (progress g.C.Read.remaining c.args.cert.now).left (progress g.C.Read.remaining c.open_certificate.new.cert) c.in_ok-opening.opening.lines
    c.in_ok-opening.opening.derivations.items c.in-Ok.held c.in_ok-opening.ensures.opened (c.in_ok-opening.ensures.held refl) c.in-Ok.ensures.derivations c.in-Ok.ensures.ok

pub returns-in-Err-clause-err : goal.returns-in-Err-clause-err
returns-in-Err-clause-err g c =
    let start = IsOutcomeOn c.args.model.now (progress g.C.Read.remaining c.args.cert.now).left in
    let opened = c.in_ok-opening.ensures.opened in
    subst (IsFaultWhere start) (sym c.further.ensures)
    (fault-further (ComesTo c.open_certificate.new.model no_past (progress g.C.Read.remaining c.open_certificate.new.cert)) start c.in_ok-opening.opening.lines c.in-Err.fault opened.leads c.in-Err.ensures.err)
