-- The line stands, and the solution is printed.
use Rattle.std.proofs.Common.{subst}
use Rattle.fzn_cert.specs.declared.step.Step.{Step}
use Rattle.fzn_cert.specs.Accepted.{AllAccepted}
use Rattle.std.proofs.Common.{[], ◌∷◌, ◌++◌}
use Rattle.fzn_solver.specs.Writers.{taken}
use Rattle.fzn_solver.proofs.WritersLemmas.{refused-kept, unflushed-kept, shown-kept, assignment-of}
use Rattle.fzn_solver.proofs.writers.Writers.print.Goals as goal

pub returns-in_err-line-clause-kept : goal.returns-in_err-line-clause-kept
returns-in_err-line-clause-kept g c =
    refused-kept g.W.Write.contents g.C.Write.contents c.args.model.now c.args.step.now c.args.self.now c.line.new.self c.requires.kept c.in_err-line.ensures.err

pub returns-in_err-flush_certificate-clause-kept : goal.returns-in_err-flush_certificate-clause-kept
returns-in_err-flush_certificate-clause-kept g c =
    unflushed-kept g.W.Write.contents g.C.Write.contents c.args.model.now c.args.step.now c.args.values.now c.args.self.now c.line.new.self c.flush_certificate.new.self c.requires.is.0 c.requires.is.1 c.requires.spelled c.requires.kept
    c.in_ok-line.ensures.ok c.flush_certificate.ensures.kept c.in_err-flush_certificate.ensures.err c.flush_certificate.ensures.same_cert c.flush_certificate.ensures.same_rest

pub show-requires-clause-assignment : goal.show-requires-clause-assignment
show-requires-clause-assignment g c =
    let A : Step → Type 0 = λ s. AllAccepted c.args.model.now (taken c.args.self.now ++ s ∷ []) in
    assignment-of g.W.Write.contents g.C.Write.contents c.args.model.now (taken c.args.self.now) c.args.values.now (subst A c.requires.is.0 c.requires.accepted)

pub returns-clause-kept : goal.returns-clause-kept
returns-clause-kept g c =
    shown-kept g.W.Write.contents g.C.Write.contents c.args.model.now c.args.step.now c.args.values.now c.args.self.now c.line.new.self c.flush_certificate.new.self c.show.new.self c.requires.is.0 c.requires.is.1 c.requires.spelled c.requires.kept
    c.in_ok-line.ensures.ok c.flush_certificate.ensures.kept c.in_ok-flush_certificate.ensures.ok.2 c.flush_certificate.ensures.same_cert c.flush_certificate.ensures.same_rest c.show.ensures.same c.show.ensures.printed
