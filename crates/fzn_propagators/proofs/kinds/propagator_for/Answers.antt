-- An all different and an inverse have a propagator.
use Rattle.std.proofs.Common.{◌-◌}
use Rattle.fzn_propagators.proofs.CrateLemmas.{found-different, found-inverse}
use Rattle.fzn_propagators.proofs.kinds.propagator_for.Goals as goal

pub unreachable-requires : goal.unreachable-requires
unreachable-requires c =
    found-different c.args.model.now.constraints (c.args.c - 1) c.args.given.now c.requires.given c.in_ok-propagator-in-AllDifferent.field-0 c.in-AllDifferent.places c.in-AllDifferent.is c.in-None.is
    c.in_ok-propagator-in-AllDifferent.ensures.none

pub unreachable-requires-in-None-2 : goal.unreachable-requires-in-None-2
unreachable-requires-in-None-2 c =
    found-inverse c.args.model.now.constraints (c.args.c - 1) c.args.given.now c.requires.given c.in_ok-propagator-in-Inverse.field-0 c.in-Inverse.forward c.in-Inverse.backward c.in-Inverse.is c.in-None-2.is
    c.in_ok-propagator-in-Inverse.ensures.none
