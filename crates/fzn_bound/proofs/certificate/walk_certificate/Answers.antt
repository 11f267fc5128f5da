use Rattle.std.proofs.Common.{IsSome, refl, sym, subst}
use Rattle.fzn_cert.specs.Past.{no_past}
use Rattle.fzn_cert_reader.specs.Reader.{progress}
use Rattle.fzn_head.specs.Outcome.{IsOutcomeOn}
use Rattle.fzn_checker.specs.Checked.{IsFaultWhere, ComesTo}
use Rattle.fzn_checker.proofs.CallerLemmas.{error-is, fault-further}
use Rattle.fzn_bound.proofs.WalkLemmas.{walked-of}
use Rattle.fzn_bound.proofs.certificate.walk_certificate.Goals as goal

pub returns-in_err-opening-clause-err : goal.returns-in_err-opening-clause-err
returns-in_err-opening-clause-err g c =
    error-is c.from_residual.result c.in_err-opening.field-0.0 (IsFaultWhere (IsOutcomeOn c.args.model.now (progress g.C.Read.remaining c.args.cert.now).left))
    c.from_residual.ensures.1 c.in_err-opening.ensures.err

pub walk_steps-requires-clause-begun : goal.walk_steps-requires-clause-begun
walk_steps-requires-clause-begun g c = subst IsSome (sym c.in_ok-opening.ensures.opened.told) refl

pub returns-in-Ok-clause-ok : goal.returns-in-Ok-clause-ok
returns-in-Ok-clause-ok g c =
    walked-of c.args.model.now c.open_certificate.new.model (progress g.C.Read.remaining c.args.cert.now).left (progress g.C.Read.remaining c.open_certificate.new.cert) c.in_ok-opening.opening.lines
    c.in-Ok.walked c.in_ok-opening.ensures.opened c.open_certificate.ensures.extended c.in-Ok.ensures.ok

pub returns-clause-err : goal.returns-clause-err
returns-clause-err g c =
    let start = IsOutcomeOn c.args.model.now (progress g.C.Read.remaining c.args.cert.now).left in
    let opened = c.in_ok-opening.ensures.opened in
    subst (IsFaultWhere start) (sym c.further.ensures)
    (fault-further (ComesTo c.open_certificate.new.model no_past (progress g.C.Read.remaining c.open_certificate.new.cert)) start c.in_ok-opening.opening.lines c.in-Err.fault opened.leads c.in-Err.ensures.err)
