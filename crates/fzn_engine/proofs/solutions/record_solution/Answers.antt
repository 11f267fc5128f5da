-- The values of fixed variables are an accepted step, and their cut is false.
use Rattle.std.proofs.lemmas.Result.{IfOk-weaker}
use Rattle.fzn_engine.proofs.RunLemmas.{record-accepted, recorded}
use Rattle.fzn_engine.proofs.solutions.record_solution.Goals as goal

pub write_solution-requires-clause-solution : goal.write_solution-requires-clause-solution
write_solution-requires-clause-solution g c = (record-accepted c.requires.ready.good c.requires.ready.state c.requires.complete c.in_ok-values.ensures.within).0

pub write_solution-requires-clause-passes : goal.write_solution-requires-clause-passes
write_solution-requires-clause-passes g c = (record-accepted c.requires.ready.good c.requires.ready.state c.requires.complete c.in_ok-values.ensures.within).1

pub returns-clause-recorded : goal.returns-clause-recorded
returns-clause-recorded g c =
    IfOk-weaker c.write_solution.result _ _ (λ id w. recorded c.requires.ready.good c.requires.ready.state c.requires.complete c.in_ok-values.ensures.within _ _ id w) c.write_solution.ensures.written
