use Rattle.std.specs.Prelude.{◌≡◌, []}
use Rattle.fzn_propagators.specs.Propagators.{StandFor}
use Rattle.fzn_propagators.proofs.propagators.Propagators.ask_queued.Given as goal

-- nothing is found that was not handed over
abbrev pub invariant-loop : goal.invariant-loop
invariant-loop g l = StandFor g.P.Propagator.number g.P.Propagator.is_for g.P.Propagator.fits l.self l.model × (l.self.found ≡ [])
