use Rattle.std.proofs.Common.{◌≡◌, take}
use Rattle.fzn_cert.specs.Accepted.{past_after}
use Rattle.fzn_state.specs.State.{known_in}
use Rattle.fzn_state.specs.Search.{stock_of}
use Rattle.fzn_state.specs.Antecedents.{GiveAntecedents, AreInferencesWritten}
use Rattle.fzn_state.proofs.solver.Solver.write_antecedents.Given as goal

-- the antecedents so far have their numbers
abbrev pub invariant-loop-antecedent : goal.invariant-loop-antecedent
invariant-loop-antecedent g l =
    AreInferencesWritten l.model (g.S.Sink.written l.initial.sink) l.initial.self l.self (g.S.Sink.written l.sink)
    × GiveAntecedents (past_after l.model (g.S.Sink.written l.sink)) (known_in (stock_of l.initial.self)) l.numbers (take l.antecedent-index l.antecedents)
    × g.S.Sink.keeps l.model l.sink × (g.S.Sink.origin l.sink ≡ g.S.Sink.origin l.initial.sink)
