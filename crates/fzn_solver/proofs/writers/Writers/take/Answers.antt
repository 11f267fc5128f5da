-- The line of a step that is no solution.
use Rattle.std.proofs.Common.{ap}
use Rattle.fzn_printer.specs.Printer.{out_stream}
use Rattle.fzn_solver.proofs.CauseLemmas.{line-taken}
use Rattle.fzn_solver.proofs.WritersLemmas.{line-step}
use Rattle.fzn_solver.proofs.writers.Writers.take.Goals as goal

pub returns-in_default : goal.returns-in_default
returns-in_default g c =
    let all = line-step g.W.Write.contents g.C.Write.contents c.args.model.now c.args.step.now c.args.self.now c.line.new.self c.line.result (λ values is. c.in_default.not-Solution values is) c.requires.spelled c.requires.kept c.line.ensures.ok c.line.ensures.err c.line.ensures.untold in
    let more = line-taken g.W.Write.contents g.C.Write.contents g.W.TrackedWrite.has_failed g.C.TrackedWrite.has_failed c.args.model.now c.args.step.now c.args.self.now c.line.new.self c.line.result c.requires.accepted c.requires.kept c.requires.open c.line.ensures.ok c.line.ensures.err c.line.ensures.cause in
    let out = more.2 in
    record { «open» = more.0; cause = more.1; same_streams = (ap (out_stream g.W.TrackedWrite.stream) out, c.line.ensures.same_stream); same_stopped = c.line.ensures.same_stopped; untold = c.line.ensures.untold; logged = all.0; ok = all.1; few = all.2; kept = all.3; same = all.4 }
