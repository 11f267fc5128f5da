-- The end of the certificate stands, and then the rest of the answer.
use Rattle.std.proofs.Common.{refl, inr, sym, subst}
use Rattle.std.specs.Io.KnownBytes.{Appends}
use Rattle.fzn_cert.specs.Spelling.{end_line}
use Rattle.fzn_cert.specs.Writer.{contents_of as cert_contents}
use Rattle.fzn_cert.specs.declared.writer.StepWriter.{StepWriter}
use Rattle.fzn_printer.specs.Shown.{is_closed}
use Rattle.fzn_solver.proofs.ClosedLemmas.{closed-by, cut-off}
use Rattle.fzn_solver.proofs.writers.Writers.close.Goals as goal

pub returns-in-Ok-close-clause-closed : goal.returns-in-Ok-close-clause-closed
returns-in-Ok-close-clause-closed g c =
    let ended : Appends (cert_contents g.C.Write.contents c.args.self.now.cert) (cert_contents g.C.Write.contents c.finish.new.self) (end_line (is_closed c.args.ending)) = rw (← c.is_closed.ensures) c.in-Ok.ensures.ok in
    let E : StepWriter g.row.C.Denot → Type 0 = λ w. Appends (cert_contents g.C.Write.contents c.args.self.now.cert) (cert_contents g.C.Write.contents w) (end_line (is_closed c.args.ending)) in
    closed-by g.W.Write.contents g.C.Write.contents c.args.model.now (is_closed c.args.ending) c.args.self.now c.show_last.new.self _ c.finish.result c.close.result _ _ c.requires.kept
    c.finish.ensures.failed c.in-Ok.is c.close.ensures.failed c.in-Ok-close.is (subst E (sym c.show_last.ensures.same.0) ended)
    c.in_ok-show_last.ensures.shown c.in-Ok-close.ensures.written

pub returns-in-Err-close-clause-err : goal.returns-in-Err-close-clause-err
returns-in-Err-close-clause-err g c =
    let ended : Appends (cert_contents g.C.Write.contents c.args.self.now.cert) (cert_contents g.C.Write.contents c.finish.new.self) (end_line (is_closed c.args.ending)) = rw (← c.is_closed.ensures) c.in-Ok.ensures.ok in
    let E : StepWriter g.row.C.Denot → Type 0 = λ w. Appends (cert_contents g.C.Write.contents c.args.self.now.cert) (cert_contents g.C.Write.contents w) (end_line (is_closed c.args.ending)) in
    inr (
      refl,
      cut-off g.W.Write.contents g.C.Write.contents c.args.model.now (is_closed c.args.ending) c.args.self.now c.show_last.new.self _ c.finish.result c.close.result _
          c.finish.ensures.failed c.in-Ok.is c.close.ensures.failed (subst E (sym c.show_last.ensures.same.0) ended) c.in_ok-show_last.ensures.shown c.in-Err-close.ensures.front,
    )
