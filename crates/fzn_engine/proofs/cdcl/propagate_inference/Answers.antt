-- The clause of an inference is false or forces a literal.
use Rattle.std.proofs.Common.{Bool, false, true, List, ap, subst}
use Rattle.std.proofs.lemmas.Result.{IfOk-weaker}
use Rattle.fzn_propagator.specs.declared.inferences.Inferred.{Inferred}
use Rattle.fzn_trail.specs.declared.trail.Antecedent.TheVariants.{Inference}
use Rattle.fzn_engine.specs.Moves.{IsForcedBy}
use Rattle.fzn_state.specs.Search.{tally_of}
use Rattle.fzn_state.specs.declared.solver.Solver.{Solver}
use Rattle.fzn_engine.proofs.LoopLemmas.{goes-from}
use Rattle.fzn_engine.proofs.StackedLemmas.{stacked-behind, stacked-still}
use Rattle.fzn_engine.proofs.cdcl.propagate_inference.Goals as goal

pub returns-then-branch-clause-goes : goal.returns-then-branch-clause-goes
returns-then-branch-clause-goes g c =
    let F : List Inferred → Bool → Type 0 = λ stack any. IsForcedBy (record c.args.solver.now { inferences = stack }) (Inference c.in_ok-place.place) c.enqueue.new.solver any in
    let B : Bool → Type 0 = F c.push.new.self in
    let S : List Inferred → Type 0 = λ stack. F stack true in
    stacked-behind c.requires.ready.state c.requires.inferred c.in_ok-place.place c.in_ok-place.ensures.place c.enqueue.new.solver
    (subst S c.in_ok-place.ensures.ok (subst B c.if-branch.true c.in_ok-enqueue.ensures))

pub resolve_conflict-requires-clause-ready : goal.resolve_conflict-requires-clause-ready
resolve_conflict-requires-clause-ready g c =
    let F : List Inferred → Bool → Type 0 = λ stack any. IsForcedBy (record c.args.solver.now { inferences = stack }) (Inference c.in_ok-place.place) c.enqueue.new.solver any in
    let B : Bool → Type 0 = F c.push.new.self in
    let S : List Inferred → Type 0 = λ stack. F stack false in
    let state = stacked-still c.requires.ready.state c.requires.inferred c.in_ok-place.place c.in_ok-place.ensures.place c.enqueue.new.solver
    (subst S c.in_ok-place.ensures.ok (subst B c.if-branch.false c.in_ok-enqueue.ensures)) in
    record { good = c.requires.ready.good; state = state; kept = c.requires.ready.kept }

pub returns-clause-goes : goal.returns-clause-goes
returns-clause-goes g c =
    let F : Bool → Type 0 = λ any. IsForcedBy (record c.args.solver.now { inferences = c.push.new.self }) (Inference c.in_ok-place.place) c.enqueue.new.solver any in
    let still : F false = subst F c.if-branch.false c.in_ok-enqueue.ensures in
    IfOk-weaker c.resolve_conflict.result _ _ (λ goes_on goes.
    goes-from c.args.model.now c.args.solver.now c.enqueue.new.solver c.resolve_conflict.new.solver (g.S.Sink.written c.resolve_conflict.new.sink) goes_on (ap (λ (s : Solver). s.trail) still.1) (ap tally_of still.1) goes)
    c.resolve_conflict.ensures.goes
