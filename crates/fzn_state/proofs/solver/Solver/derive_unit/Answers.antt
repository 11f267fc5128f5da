-- The clause follows in the search as it is once the antecedents are written.
use Rattle.std.proofs.Common.{◌≡◌, List, Option, IfSome, subst, rules}
use Rattle.fzn_cert.specs.Accepted.{past_after}
use Rattle.fzn_trail.specs.declared.trail.Antecedent.{Antecedent}
use Rattle.fzn_learned.specs.declared.learned.Learned.{Learned}
use Rattle.fzn_learned.specs.Learned.{IsDerived}
use Rattle.fzn_state.specs.State.{known_in}
use Rattle.fzn_state.specs.Search.{stock_of}
use Rattle.fzn_state.specs.Antecedents.{GiveAntecedents}
use Rattle.fzn_state.proofs.LessonLemmas.{derives, written-beside}
use Rattle.fzn_state.proofs.SolverLemmas.{known-over}
use Rattle.fzn_state.proofs.solver.Solver.derive_unit.Goals as goal

pub unit_of-requires-clause-over : goal.unit_of-requires-clause-over
unit_of-requires-clause-over g c = known-over c.requires.ready.state

pub returns-clause-written : goal.returns-clause-written
returns-clause-written g c = written-beside c.args.self.now c.unit_of.new.sets _ c.in_ok-ids.ensures.written

pub returns-clause-derives : goal.returns-clause-derives
returns-clause-derives g c =
    let D : Option Learned → Type 0 = λ found. IfSome found (IsDerived (known_in (stock_of c.args.self.now)) c.args.self.now.trail.declared) in
    let is : IsDerived (known_in (stock_of c.args.self.now)) c.args.self.now.trail.declared c.in-Some.unit = subst D c.in-Some.is c.in_ok-found.ensures.derived in
    let antecedents : c.as_slice.result.now ≡ c.in-Some.unit.antecedents = search rules in
    let G : List Antecedent → Type 0 = λ s. GiveAntecedents (past_after c.args.model.now (g.S.Sink.written c.write_antecedents.new.sink)) (known_in (stock_of c.args.self.now)) c.in_ok-ids.ids s in
    derives c.in_ok-ids.ensures.written is c.in_ok-ids.ids (subst G antecedents c.in_ok-ids.ensures.numbers)
