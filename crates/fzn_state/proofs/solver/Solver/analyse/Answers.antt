-- What was learned holds of the search as it is once the antecedents are written.
use Rattle.std.proofs.Common.{◌≡◌, List, subst, rules}
use Rattle.fzn_cert.specs.Accepted.{past_after}
use Rattle.fzn_trail.specs.declared.trail.Antecedent.{Antecedent}
use Rattle.fzn_state.specs.State.{known_in}
use Rattle.fzn_state.specs.Search.{stock_of}
use Rattle.fzn_state.specs.Antecedents.{GiveAntecedents}
use Rattle.fzn_state.proofs.LessonLemmas.{learns, written-beside}
use Rattle.fzn_state.proofs.SolverLemmas.{known-over}
use Rattle.fzn_state.proofs.solver.Solver.analyse.Goals as goal

pub analyse-requires-clause-over : goal.analyse-requires-clause-over
analyse-requires-clause-over g c = known-over c.requires.ready.state

pub returns-clause-written : goal.returns-clause-written
returns-clause-written g c = written-beside c.args.self.now c.analyse.new.sets _ c.in_ok-ids.ensures.written

pub returns-clause-learns : goal.returns-clause-learns
returns-clause-learns g c =
    let antecedents : c.as_slice.result.now ≡ c.in_ok-learned.learned.antecedents = search rules in
    let G : List Antecedent → Type 0 = λ s. GiveAntecedents (past_after c.args.model.now (g.S.Sink.written c.write_antecedents.new.sink)) (known_in (stock_of c.args.self.now)) c.in_ok-ids.ids s in
    learns c.in_ok-ids.ensures.written c.in_ok-learned.ensures.learned c.args.conflict c.in_ok-learned.ensures.plain c.in_ok-ids.ids (subst G antecedents c.in_ok-ids.ensures.numbers)
