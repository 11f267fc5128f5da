-- What the held clauses force keeps what holds of a search.
use Rattle.std.proofs.Common.{Option, sym, subst}
use Rattle.std.proofs.lemmas.Result.{IfOk-weaker}
use Rattle.fzn_engine.specs.Loop.{Continues}
use Rattle.fzn_printer.specs.declared.printer.Ending.{Ending}
use Rattle.fzn_state.proofs.ChangeLemmas.{State-filled}
use Rattle.fzn_engine.proofs.RunLemmas.{kept-goes, kept-continues}
use Rattle.fzn_state.proofs.SolverLemmas.{propagated-kept}
use Rattle.fzn_engine.proofs.cdcl.cdcl_round.Goals as goal

pub propagate-requires-clause-not_empty : goal.propagate-requires-clause-not_empty
propagate-requires-clause-not_empty g c = State-filled c.requires.ready.state.state

pub resolve_conflict-requires-clause-ready : goal.resolve_conflict-requires-clause-ready
resolve_conflict-requires-clause-ready g c =
    let kept = propagated-kept c.requires.ready.state c.propagate.new.trail c.propagate.new.self c.propagate.ensures.same c.propagate.ensures.propagated c.in_ok-conflict.ensures.watching in
    record { good = c.requires.ready.good; state = kept.state; kept = c.requires.ready.kept.0 }

pub infer_or_decide-requires-clause-ready : goal.infer_or_decide-requires-clause-ready
infer_or_decide-requires-clause-ready g c =
    let kept = propagated-kept c.requires.ready.state c.propagate.new.trail c.propagate.new.self c.propagate.ensures.same c.propagate.ensures.propagated c.in_ok-conflict.ensures.watching in
    record { good = c.requires.ready.good; state = kept.state; kept = c.requires.ready.kept }

pub returns-in_ok-goes_on-in-Some-clause-continues : goal.returns-in_ok-goes_on-in-Some-clause-continues
returns-in_ok-goes_on-in-Some-clause-continues g c =
    let kept = propagated-kept c.requires.ready.state c.propagate.new.trail c.propagate.new.self c.propagate.ensures.same c.propagate.ensures.propagated c.in_ok-conflict.ensures.watching in
    subst (λ (ending : Option Ending). Continues c.args.model.now c.args.limits c.args.solver.now c.resolve_conflict.new.solver (g.S.Sink.written c.resolve_conflict.new.sink) ending) (sym c.ending_of.ensures)
    (kept-goes c.args.limits c.requires.within kept c.resolve_conflict.new.solver (g.S.Sink.written c.resolve_conflict.new.sink) c.in_ok-goes_on-in-Some.goes_on c.in_ok-goes_on-in-Some.ensures.goes)

pub returns-in-None-clause-continues : goal.returns-in-None-clause-continues
returns-in-None-clause-continues g c =
    let kept = propagated-kept c.requires.ready.state c.propagate.new.trail c.propagate.new.self c.propagate.ensures.same c.propagate.ensures.propagated c.in_ok-conflict.ensures.watching in
    IfOk-weaker c.infer_or_decide.result _ _ (λ ending on. kept-continues c.args.limits c.requires.within kept c.infer_or_decide.new.solver (g.S.Sink.written c.infer_or_decide.new.sink) ending on) c.infer_or_decide.ensures.continues
