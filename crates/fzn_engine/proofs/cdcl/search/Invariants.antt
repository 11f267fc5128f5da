use Rattle.std.proofs.Common.{◌≡◌}
use Rattle.fzn_state.specs.Search.{IsAfter, work_of}
use Rattle.fzn_engine.specs.Loop.{IsWithinLimits}
use Rattle.fzn_engine.proofs.cdcl.search.Given as goal

abbrev pub invariant-iterations : goal.invariant-iterations
invariant-iterations g l =
    IsAfter l.model l.solver (g.S.Sink.written l.sink) × IsWithinLimits l.model l.limits l.solver × (l.solver.learn ≡ l.initial.solver.learn) × g.S.Sink.keeps l.model l.sink × (g.S.Sink.origin l.sink ≡ g.S.Sink.origin l.initial.sink) × g.C.Constraints.is_for l.constraints l.model

abbrev pub decreases-iterations : goal.decreases-iterations
decreases-iterations g l = work_of l.limits.nodes l.solver
