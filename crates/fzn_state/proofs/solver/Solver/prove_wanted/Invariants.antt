use Rattle.std.proofs.Common.{◌≡◌}
use Rattle.fzn_state.specs.Changes.{IsReduced}
use Rattle.fzn_state.proofs.solver.Solver.prove_wanted.Given as goal

abbrev pub invariant-wanted : goal.invariant-wanted
invariant-wanted g l =
    IsReduced l.model l.fn.self l.self (g.S.Sink.written l.sink) × g.S.Sink.keeps l.model l.sink × (g.S.Sink.origin l.sink ≡ g.S.Sink.origin l.initial.sink)
