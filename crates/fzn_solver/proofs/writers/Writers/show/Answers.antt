-- The text stands, whether or not the output was flushed.
use Rattle.std.proofs.Common.{◌∙◌}
use Rattle.std.specs.Prelude.{⊤}
use Rattle.fzn_printer.specs.Printer.{is_open}
use Rattle.fzn_solver.proofs.ClosedLemmas.{open-print}
use Rattle.fzn_solver.proofs.WritersLemmas.{printed-flushed}
use Rattle.fzn_solver.proofs.writers.Writers.show.Goals as goal

pub returns-in-Ok-flush-clause-printed : goal.returns-in-Ok-flush-clause-printed
returns-in-Ok-flush-clause-printed g c =
    let opened = open-print (is_open c.args.self.now.out) c.solution.result c.in-Ok.field-0 c.solution.ensures.failed c.in-Ok.is in
    rw (← c.as_slice.ensures) (printed-flushed g.W.Write.contents g.C.Write.contents c.args.model.now c.as_slice.result.now ⊤ c.args.self.now.out c.solution.new.self c.flush.new.self c.solution.ensures.same_writer c.flush.ensures.same_writer opened c.in-Ok.ensures.written c.flush.ensures.kept
    (λ _. c.in-Ok-flush.ensures.ok.1 ∙ c.in-Ok.ensures.ok.1))

pub returns-in-Err-flush-clause-printed : goal.returns-in-Err-flush-clause-printed
returns-in-Err-flush-clause-printed g c =
    let opened = open-print (is_open c.args.self.now.out) c.solution.result c.in-Ok.field-0 c.solution.ensures.failed c.in-Ok.is in
    rw (← c.as_slice.ensures) (printed-flushed g.W.Write.contents g.C.Write.contents c.args.model.now c.as_slice.result.now ⊤ c.args.self.now.out c.solution.new.self c.flush.new.self c.solution.ensures.same_writer c.flush.ensures.same_writer opened c.in-Ok.ensures.written c.flush.ensures.kept
    (λ stays. cc c.in-Err-flush.ensures.err))
