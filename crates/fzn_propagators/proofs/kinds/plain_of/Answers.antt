-- A builtin that is no sum has inputs.
use Rattle.std.proofs.Common.{◌-◌}
use Rattle.fzn_propagators.proofs.CrateLemmas.{no-inputs}
use Rattle.fzn_propagators.proofs.kinds.plain_of.Goals as goal

pub unreachable-requires : goal.unreachable-requires
unreachable-requires c =
    c.requires.plain (no-inputs c.args.model.now.constraints (c.args.c - 1) c.args.given.now c.requires.given c.in_ok-propagator.field-0 c.in_ok-propagator-2.field-0
    c.in_default.not-Some c.in-None.is c.in_ok-propagator.ensures.none c.in_ok-propagator-2.ensures.none)
