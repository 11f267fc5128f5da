use Rattle.std.proofs.Common.{◌≡◌}
use Rattle.fzn_engine.specs.Hinted.{HasTakenHints}
use Rattle.fzn_engine.proofs.hinting.take_hints.Given as goal

-- what was taken so far
abbrev pub invariant-hints : goal.invariant-hints
invariant-hints g l =
    HasTakenHints l.model l.limits l.fn.solver l.solver (g.S.Sink.written l.sink) × g.S.Sink.keeps l.model l.sink × (g.S.Sink.origin l.sink ≡ g.S.Sink.origin l.initial.sink)
