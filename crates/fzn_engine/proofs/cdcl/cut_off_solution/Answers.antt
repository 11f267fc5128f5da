-- At the solution limit the search is over.
use Rattle.fzn_engine.proofs.RunLemmas.{solution-limit}
use Rattle.fzn_engine.proofs.cdcl.cut_off_solution.Goals as goal

pub returns-then-is_reached-clause-continues : goal.returns-then-is_reached-clause-continues
returns-then-is_reached-clause-continues g c =
    let recorded = c.in_ok-id.ensures.recorded in
    solution-limit c.args.limits c.args.solver.now recorded.state recorded.tally c.requires.within c.if-is_reached.ensures
