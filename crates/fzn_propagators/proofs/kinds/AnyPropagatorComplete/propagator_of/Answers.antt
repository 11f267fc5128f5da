use Rattle.std.proofs.Common.{◌-◌, get_or, ap, ◌∙◌}
use Rattle.fzn_propagators.proofs.kinds.AnyPropagatorComplete.propagator_of.Goals as goal

pub propagator_for-requires-clause-given : goal.propagator_for-requires-clause-given
propagator_for-requires-clause-given c = c.index-as_slice-c.is ∙ ap (λ xs. get_or xs (c.args.c - 1) c.index-as_slice-c.result) c.as_slice.ensures
