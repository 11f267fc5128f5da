-- The text in front of the steps stands.
use Rattle.std.proofs.Common.{refl}
use Rattle.fzn_cert.specs.Writer.{contents_of as cert_contents}
use Rattle.fzn_solver.specs.Writers.{opening_in}
use Rattle.fzn_solver.proofs.WritersLemmas.{begun-kept}
use Rattle.fzn_solver.proofs.ClosedLemmas.{leaves-front}
use Rattle.fzn_solver.proofs.writers.Writers.begin.Goals as goal

pub returns-in-Ok-clause-kept : goal.returns-in-Ok-clause-kept
returns-in-Ok-clause-kept g c =
    begun-kept g.W.Write.contents g.C.Write.contents c.args.model.now c.put_opening.new.cert c.args.self.now c.requires.fresh c.in-Ok.ensures.begun.1 c.in-Ok.ensures.begun.2 c.in-Ok.ensures.ok

pub returns-in-Err-clause-err : goal.returns-in-Err-clause-err
returns-in-Err-clause-err g c =
    let front = leaves-front (opening_in c.args.model.now c.args.self.now) (cert_contents g.C.Write.contents c.args.self.now.cert) (cert_contents g.C.Write.contents c.put_opening.new.cert) c.in-Err.fault c.in-Err.ensures.err in
    record { front = front; out = refl }
