use Rattle.std.proofs.Common.{◌≡◌, length}
use Rattle.fzn_propagators.proofs.MadeLemmas.{AreFirst}
use Rattle.fzn_propagators.proofs.propagators.Propagators.new.Given as goal

-- the propagators of the constraints before this place
abbrev pub invariant-loop-i : goal.invariant-loop-i
invariant-loop-i g l = record {
  one_each : length l.items ≡ l.i;
  first : AreFirst g.P.Propagator.number g.P.Propagator.is_for g.P.Propagator.fits l.model l.i l.items;
}
