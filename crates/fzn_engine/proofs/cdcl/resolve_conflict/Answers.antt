-- At a lower level the learned clause forces a literal.
use Rattle.std.proofs.Common.{◌≡◌, ℕ, true, Option, sym, subst}
use Rattle.fzn_strategy.specs.declared.learn.Learn.{Learn}
use Rattle.fzn_strategy.specs.declared.learn.Learn.TheVariants.{Plain, First}
use Rattle.fzn_state.specs.declared.solver.Solver.{Solver}
use Rattle.fzn_state.specs.declared.learning.Lesson.{Lesson}
use Rattle.fzn_state.specs.Changes.{Teaches, Holds}
use Rattle.fzn_engine.specs.Moves.{IsBackAt}
use Rattle.fzn_engine.proofs.BackjumpLemmas.{learn-known, learn-over, learn-behind, restart-behind}
use Rattle.fzn_state.proofs.SolverLemmas.{holds-reasoned}
use Rattle.fzn_engine.proofs.LoopLemmas.{goes-from}
use Rattle.fzn_engine.proofs.cdcl.resolve_conflict.Goals as goal

not_plain : (held mid : Learn) → held ≡ First → held ≡ mid → mid ≡ Plain → ⊥
not_plain held mid due same plain = cc

pub restart-requires : goal.restart-requires
restart-requires g c =
    let T : Option Lesson → Type 0 = λ lesson. Teaches c.args.model.now (g.S.Sink.written c.args.sink.now) c.args.solver.now c.learn.new.self (g.S.Sink.written c.learn.new.sink) c.args.conflict lesson in
    let l = subst T c.in-Some.is c.in_ok-learned.ensures.learned in
    let H : Solver → Type 0 = λ s. Holds l.learned.clause l.mid s in
    holds-reasoned l.learns.state (subst H (sym c.is_restart_due.ensures.same) l.holds)

pub returns-then-is_restart_due-clause-goes : goal.returns-then-is_restart_due-clause-goes
returns-then-is_restart_due-clause-goes g c =
    let T : Option Lesson → Type 0 = λ lesson. Teaches c.args.model.now (g.S.Sink.written c.args.sink.now) c.args.solver.now c.learn.new.self (g.S.Sink.written c.learn.new.sink) c.args.conflict lesson in
    let l = subst T c.in-Some.is c.in_ok-learned.ensures.learned in
    let H : Solver → Type 0 = λ s. Holds l.learned.clause l.mid s in
    let first = not_plain c.learn.new.self.learn l.mid.learn (c.is_restart_due.ensures.first c.if-is_restart_due.true) l.holds.learn in
    goes-from c.args.model.now c.args.solver.now l.mid c.restart.new.solver (g.S.Sink.written c.learn.new.sink) true l.written.trail l.written.tally
    (restart-behind l.learns l.now_is l.few l.some (subst H (sym c.is_restart_due.ensures.same) l.holds) c.restart.ensures first)

pub backjump-requires-clause-reasoned : goal.backjump-requires-clause-reasoned
backjump-requires-clause-reasoned g c =
    let T : Option Lesson → Type 0 = λ lesson. Teaches c.args.model.now (g.S.Sink.written c.args.sink.now) c.args.solver.now c.learn.new.self (g.S.Sink.written c.learn.new.sink) c.args.conflict lesson in
    let l = subst T c.in-Some.is c.in_ok-learned.ensures.learned in
    let H : Solver → Type 0 = λ s. Holds l.learned.clause l.mid s in
    holds-reasoned l.learns.state (subst H (sym c.is_restart_due.ensures.same) l.holds)

pub enqueue-requires-clause-known : goal.enqueue-requires-clause-known
enqueue-requires-clause-known g c =
    let T : Option Lesson → Type 0 = λ lesson. Teaches c.args.model.now (g.S.Sink.written c.args.sink.now) c.args.solver.now c.learn.new.self (g.S.Sink.written c.learn.new.sink) c.args.conflict lesson in
    let l = subst T c.in-Some.is c.in_ok-learned.ensures.learned in
    let H : Solver → Type 0 = λ s. Holds l.learned.clause l.mid s in
    let B : ℕ → Type 0 = λ level. IsBackAt level c.is_restart_due.new.solver c.backjump.new.solver in
    learn-known l.learns l.now_is l.few l.some (subst H (sym c.is_restart_due.ensures.same) l.holds) (subst B l.level c.backjump.ensures) c.in-Some.lesson.id l.newest

pub enqueue-requires-clause-over : goal.enqueue-requires-clause-over
enqueue-requires-clause-over g c =
    let T : Option Lesson → Type 0 = λ lesson. Teaches c.args.model.now (g.S.Sink.written c.args.sink.now) c.args.solver.now c.learn.new.self (g.S.Sink.written c.learn.new.sink) c.args.conflict lesson in
    let l = subst T c.in-Some.is c.in_ok-learned.ensures.learned in
    let H : Solver → Type 0 = λ s. Holds l.learned.clause l.mid s in
    let B : ℕ → Type 0 = λ level. IsBackAt level c.is_restart_due.new.solver c.backjump.new.solver in
    learn-over l.learns l.now_is l.few l.some (subst H (sym c.is_restart_due.ensures.same) l.holds) (subst B l.level c.backjump.ensures) c.in-Some.lesson.id l.newest

pub returns-clause-goes : goal.returns-clause-goes
returns-clause-goes g c =
    let T : Option Lesson → Type 0 = λ lesson. Teaches c.args.model.now (g.S.Sink.written c.args.sink.now) c.args.solver.now c.learn.new.self (g.S.Sink.written c.learn.new.sink) c.args.conflict lesson in
    let l = subst T c.in-Some.is c.in_ok-learned.ensures.learned in
    let H : Solver → Type 0 = λ s. Holds l.learned.clause l.mid s in
    let B : ℕ → Type 0 = λ level. IsBackAt level c.is_restart_due.new.solver c.backjump.new.solver in
    goes-from c.args.model.now c.args.solver.now l.mid c.enqueue.new.solver (g.S.Sink.written c.learn.new.sink) true l.written.trail l.written.tally
    (learn-behind l.learns l.now_is l.few l.some (subst H (sym c.is_restart_due.ensures.same) l.holds) (subst B l.level c.backjump.ensures) c.in-Some.lesson.id l.newest c.enqueue.new.solver c.in_ok-enqueue.field-0 c.in_ok-enqueue.ensures)
