-- Reducing keeps what the round made, and so does a hint that is taken.
use Rattle.std.proofs.Common.{Option, subst}
use Rattle.std.proofs.lemmas.Result.{IfOk-weaker}
use Rattle.fzn_printer.specs.declared.printer.Ending.{Ending}
use Rattle.fzn_engine.specs.Loop.{Continues}
use Rattle.fzn_engine.proofs.HintLemmas.{hints-continue}
use Rattle.fzn_engine.proofs.LoopLemmas.{kept-ongoing}
use Rattle.fzn_engine.proofs.cdcl.iterate.Goals as goal

pub take_hints-requires : goal.take_hints-requires
take_hints-requires g c =
    let C : Option Ending → Type 0 = λ ending. Continues c.args.model.now c.args.limits c.args.solver.now c.cdcl_round.new.solver (g.S.Sink.written c.cdcl_round.new.sink) ending in
    let kept = c.in_ok-reduce-in-None.ensures.kept in
    let on = kept-ongoing (subst C c.in-None.is c.in_ok-ending.ensures.continues) kept in
    record { ready = record { good = c.requires.ready.good; state = kept.state; kept = c.reduce.ensures.left.kept }; within = on.within }

pub returns-in_ok-reduce-in-None-clause-continues : goal.returns-in_ok-reduce-in-None-clause-continues
returns-in_ok-reduce-in-None-clause-continues g c =
    let C : Option Ending → Type 0 = λ ending. Continues c.args.model.now c.args.limits c.args.solver.now c.cdcl_round.new.solver (g.S.Sink.written c.cdcl_round.new.sink) ending in
    let on = kept-ongoing (subst C c.in-None.is c.in_ok-ending.ensures.continues) c.in_ok-reduce-in-None.ensures.kept in
    IfOk-weaker c.take_hints.result _ _ (λ ending takes. hints-continue c.args.limits c.take_hints.new.solver (g.S.Sink.written c.take_hints.new.sink) on ending takes) c.take_hints.ensures.takes
