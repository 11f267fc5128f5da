-- What the search wrote is the answer with its certificate.
use Rattle.std.proofs.Common.{ℕ, Option, refl, sym, subst, ◌∙◌, inl}
use Rattle.fzn_cert.specs.Writer.{contents_of as cert_contents, has_failed_in as cert_failed}
use Rattle.fzn_engine.specs.declared.limits.Limits.{Limits}
use Rattle.fzn_engine.specs.Outcome.{HasRoomForMore}
use Rattle.fzn_printer.specs.Printer.{out_contents, out_failed}
use Rattle.fzn_printer.specs.Shown.{is_closed}
use Rattle.fzn_solver.specs.Causes.{IsCause}
use Rattle.fzn_solver.specs.FaultsFrom.{fault_of_engine}
use Rattle.fzn_solver.specs.Searched.{IsLeftOfEach, HasCauseOfEach}
use Rattle.fzn_solver.specs.Writers.{opening_in}
use Rattle.fzn_solver.proofs.LeftLemmas.{error-is, left-unbegun, left-on_way, left-at_end, lines-kept, lines-unclosed}
use Rattle.fzn_solver.proofs.CauseLemmas.{run-cause, fault-cause}
use Rattle.fzn_solver.proofs.AnswerLemmas.{answer-of, room-at_first}
use Rattle.fzn_solver.proofs.answer.search.Goals as goal

pub solve-requires-clause-room : goal.solve-requires-clause-room
solve-requires-clause-room g c =
    let H : Option ℕ → Type 0 = λ most. HasRoomForMore c.args.model.now.goal most 0 in
    subst H (sym c.wanted.ensures) (room-at_first c.args.model.now.goal c.args.options.now.all c.args.options.now.limit)

pub returns-clause-answer : goal.returns-clause-answer
returns-clause-answer g c =
    let limits : Limits = record { nodes = c.args.options.now.nodes; solutions = c.wanted.result } in
    answer-of g.W.Write.contents g.C.Write.contents c.args.model.now c.args.options.now c.args.writers.now c.solve.new.sink c.close.new.self limits c.in-Ok.report
    c.requires.fresh c.requires.alone (c.solve.ensures.kept.1 ∙ c.begin.ensures.same) refl c.wanted.ensures c.solve.ensures.accepted c.in-Ok.ensures.outcome c.in-Ok.ensures.solutions c.in_ok-close.ensures.closed

pub returns-in_err-begin-clause-left : goal.returns-in_err-begin-clause-left
returns-in_err-begin-clause-left g c =
    error-is c.from_residual.result (fault_of_engine c.in_err-begin.field-0.0) (IsLeftOfEach c.args.options.now c.args.model.now (opening_in c.args.model.now c.args.writers.now) (out_contents g.W.Write.contents c.args.writers.now.out) (out_contents g.W.Write.contents c.begin.new.self.out) (cert_contents g.C.Write.contents c.args.writers.now.cert) (cert_contents g.C.Write.contents c.begin.new.self.cert)) c.from_residual.ensures.1
    (left-unbegun g.W.Write.contents g.C.Write.contents c.args.model.now c.args.options.now c.args.writers.now c.begin.new.self c.in_err-begin.field-0.0 c.requires.model c.in_err-begin.ensures.err)

pub returns-in_err-close-clause-left : goal.returns-in_err-close-clause-left
returns-in_err-close-clause-left g c =
    error-is c.from_residual-in_err-close.result (fault_of_engine c.in_err-close.field-0.0) (IsLeftOfEach c.args.options.now c.args.model.now (opening_in c.args.model.now c.args.writers.now) (out_contents g.W.Write.contents c.args.writers.now.out) (out_contents g.W.Write.contents c.close.new.self.out) (cert_contents g.C.Write.contents c.args.writers.now.cert) (cert_contents g.C.Write.contents c.close.new.self.cert)) c.from_residual-in_err-close.ensures.1
    (left-at_end g.W.Write.contents g.C.Write.contents c.args.model.now c.args.options.now c.args.writers.now c.solve.new.sink c.close.new.self c.in_err-close.field-0.0 _ _ c.in-Ok.report.nodes c.in-Ok.report.ending
    c.requires.model c.requires.fresh c.requires.alone (c.solve.ensures.kept.1 ∙ c.begin.ensures.same) c.solve.ensures.accepted c.in-Ok.ensures.outcome c.solve.ensures.kept.0.0 c.in_err-close.ensures.err)

pub returns-in_err-begin-clause-cause : goal.returns-in_err-begin-clause-cause
returns-in_err-begin-clause-cause g c =
    error-is c.from_residual.result (fault_of_engine c.in_err-begin.field-0.0) (HasCauseOfEach (out_failed g.W.TrackedWrite.has_failed c.begin.new.self.out) (cert_failed g.C.TrackedWrite.has_failed c.begin.new.self.cert) c.args.options.now c.args.model.now (opening_in c.args.model.now c.args.writers.now) (cert_contents g.C.Write.contents c.args.writers.now.cert) (cert_contents g.C.Write.contents c.begin.new.self.cert)) c.from_residual.ensures.1
    (run-cause g.W.TrackedWrite.has_failed g.C.TrackedWrite.has_failed c.args.model.now c.args.options.now (opening_in c.args.model.now c.args.writers.now) c.begin.new.self c.in_err-begin.field-0.0 (cert_contents g.C.Write.contents c.args.writers.now.cert) (cert_contents g.C.Write.contents c.begin.new.self.cert)
    (inl (c.begin.ensures.same_taken ∙ c.requires.fresh.none_taken, c.in_err-begin.ensures.err.front)) c.in_err-begin.ensures.cause)

pub returns-in-Err-clause-left : goal.returns-in-Err-clause-left
returns-in-Err-clause-left g c =
    subst (IsLeftOfEach c.args.options.now c.args.model.now (opening_in c.args.model.now c.args.writers.now) (out_contents g.W.Write.contents c.args.writers.now.out) (out_contents g.W.Write.contents c.solve.new.sink.out) (cert_contents g.C.Write.contents c.args.writers.now.cert) (cert_contents g.C.Write.contents c.solve.new.sink.cert)) (sym c.into.ensures)
    (left-on_way g.W.Write.contents g.C.Write.contents c.args.model.now c.args.options.now c.args.writers.now c.solve.new.sink c.fault.result c.requires.model c.requires.fresh c.requires.alone
    (c.solve.ensures.kept.1 ∙ c.begin.ensures.same) c.solve.ensures.accepted c.solve.ensures.kept.0.0)

pub returns-in-Err-clause-cause : goal.returns-in-Err-clause-cause
returns-in-Err-clause-cause g c =
    let now = c.solve.new.sink in
    subst (HasCauseOfEach (out_failed g.W.TrackedWrite.has_failed now.out) (cert_failed g.C.TrackedWrite.has_failed now.cert) c.args.options.now c.args.model.now (opening_in c.args.model.now c.args.writers.now) (cert_contents g.C.Write.contents c.args.writers.now.cert) (cert_contents g.C.Write.contents now.cert)) (sym c.into.ensures)
    (run-cause g.W.TrackedWrite.has_failed g.C.TrackedWrite.has_failed c.args.model.now c.args.options.now (opening_in c.args.model.now c.args.writers.now) now c.fault.result (cert_contents g.C.Write.contents c.args.writers.now.cert) (cert_contents g.C.Write.contents now.cert)
    (lines-kept g.W.Write.contents g.C.Write.contents c.args.model.now c.args.options.now c.args.writers.now now c.requires.fresh (c.solve.ensures.kept.1 ∙ c.begin.ensures.same) c.solve.ensures.kept.0.0)
    (subst (IsCause g.W.TrackedWrite.has_failed g.C.TrackedWrite.has_failed c.args.model.now now) (sym c.fault.ensures) (fault-cause g.W.TrackedWrite.has_failed g.C.TrackedWrite.has_failed c.args.model.now now now.stopped c.solve.ensures.kept.0.1.cause)))

pub returns-in_err-close-clause-cause : goal.returns-in_err-close-clause-cause
returns-in_err-close-clause-cause g c =
    let now = c.solve.new.sink in
    let after = c.close.new.self in
    error-is c.from_residual-in_err-close.result (fault_of_engine c.in_err-close.field-0.0) (HasCauseOfEach (out_failed g.W.TrackedWrite.has_failed after.out) (cert_failed g.C.TrackedWrite.has_failed after.cert) c.args.options.now c.args.model.now (opening_in c.args.model.now c.args.writers.now) (cert_contents g.C.Write.contents c.args.writers.now.cert) (cert_contents g.C.Write.contents after.cert)) c.from_residual-in_err-close.ensures.1
    (run-cause g.W.TrackedWrite.has_failed g.C.TrackedWrite.has_failed c.args.model.now c.args.options.now (opening_in c.args.model.now c.args.writers.now) after c.in_err-close.field-0.0 (cert_contents g.C.Write.contents c.args.writers.now.cert) (cert_contents g.C.Write.contents after.cert)
    (lines-unclosed g.W.Write.contents g.C.Write.contents c.args.model.now c.args.options.now c.args.writers.now now after (is_closed c.in-Ok.report.ending) c.in_err-close.field-0.0 c.requires.fresh (c.solve.ensures.kept.1 ∙ c.begin.ensures.same) c.solve.ensures.kept.0.0 c.close.ensures.same_taken c.in_err-close.ensures.err)
    c.in_err-close.ensures.cause)
