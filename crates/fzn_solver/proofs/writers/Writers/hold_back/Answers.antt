-- The line stands, and the solution waits.
use Rattle.std.proofs.Common.{◌≡◌, refl, ◌∙◌, rules}
use Rattle.fzn_solver.proofs.WritersLemmas.{refused-kept, flushed-held, on_ok}
use Rattle.fzn_solver.proofs.writers.Writers.hold_back.Goals as goal

pub returns-in_err-line-clause-kept : goal.returns-in_err-line-clause-kept
returns-in_err-line-clause-kept g c =
    refused-kept g.W.Write.contents g.C.Write.contents c.args.model.now c.args.step.now c.args.self.now c.line.new.self c.requires.kept c.in_err-line.ensures.err

pub returns-clause-kept : goal.returns-clause-kept
returns-clause-kept g c =
    let same : c.in_ok-values.values ≡ c.args.values.now = search rules in
    flushed-held g.W.Write.contents g.C.Write.contents c.args.model.now c.args.step.now c.in_ok-values.values c.args.self.now c.line.new.self _ c.flush_certificate.new.self (c.requires.is.0 ∙ grind rules) c.requires.is.1 c.requires.accepted c.requires.spelled c.requires.kept
    c.in_ok-line.ensures.ok (refl, refl) c.flush_certificate.ensures.kept (on_ok c.line.new.self.cert c.flush_certificate.new.self.cert c.flush_certificate.result c.flush_certificate.ensures.ok c.flush_certificate.ensures.err) c.flush_certificate.ensures.same_cert c.flush_certificate.ensures.same_rest
