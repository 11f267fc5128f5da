-- No set is empty; where a decision is wanted there are choices left.
use Rattle.std.proofs.Common.{◌≡◌, length, sym, ap, ◌∙◌, subst}
use Rattle.fzn_domain.specs.Narrow.{NoneEmpty}
use Rattle.fzn_search.specs.Fixed.{HasMany}
use Rattle.fzn_printer.specs.declared.printer.Ending.TheVariants.{NodeLimit}
use Rattle.fzn_state.specs.declared.solver.Solver.{Solver}
use Rattle.fzn_engine.specs.Loop.{IsOver}
use Rattle.fzn_engine.specs.Moves.{IsDecided}
use Rattle.fzn_state.proofs.ChangeLemmas.{State-filled, State-length}
use Rattle.fzn_engine.proofs.RunLemmas.{node-limit, decided-ongoing}
use Rattle.fzn_engine.proofs.cdcl.infer_or_decide.Goals as goal

pub infer-requires-clause-not_empty : goal.infer-requires-clause-not_empty
infer-requires-clause-not_empty g c = State-filled c.requires.ready.state.state

pub is_fixed-requires-clause-filled : goal.is_fixed-requires-clause-filled
is_fixed-requires-clause-filled g c = State-filled c.requires.ready.state.state

pub decide-requires-clause-filled : goal.decide-requires-clause-filled
decide-requires-clause-filled g c =
    let F : Solver → Type 0 = λ s. NoneEmpty s.trail.sets in
    subst F (sym c.is_fixed.ensures.same) (State-filled c.requires.ready.state.state)

pub decide-requires-clause-one_each : goal.decide-requires-clause-one_each
decide-requires-clause-one_each g c =
    let E : Solver → Type 0 = λ s. length s.trail.sets ≡ length s.trail.declared in
    subst E (sym c.is_fixed.ensures.same) (State-length c.requires.ready.state.state)

pub returns-then-nodes-limits-clause-continues : goal.returns-then-nodes-limits-clause-continues
returns-then-nodes-limits-clause-continues g c =
    let same = c.is_fixed.ensures.same in
    let M : Solver → Type 0 = λ s. HasMany s.trail.sets in
    let O : Solver → Type 0 = λ s. IsOver c.args.model.now c.args.solver.now.learn c.args.limits s (g.S.Sink.written c.args.sink.now) NodeLimit in
    subst O (sym same)
    (node-limit c.args.limits c.requires.ready.state c.requires.within
    (ap (λ (s : Solver). s.search.nodes) (sym same) ∙ sym c.nodes.ensures ∙ c.if-nodes-limits.true) (subst M same (c.is_fixed.ensures.many c.if-is_fixed.false)))

pub returns-clause-continues : goal.returns-clause-continues
returns-clause-continues g c =
    let same = c.is_fixed.ensures.same in
    let D : Solver → Type 0 = λ s. IsDecided s c.decide.new.solver in
    decided-ongoing c.args.limits c.requires.ready.state c.requires.propagated.seen c.requires.within
    (λ e. c.if-nodes-limits.false (c.nodes.ensures ∙ ap (λ (s : Solver). s.search.nodes) same ∙ e)) (subst D same c.in_ok-decide.ensures)
