use Rattle.std.specs.List.{All}
use Rattle.fzn_propagator.specs.Constraints.{IsInferenceJustified}
use Rattle.fzn_propagators.proofs.forcing.take_forcing.Given as goal

abbrev pub invariant-loop : goal.invariant-loop
invariant-loop l = All (IsInferenceJustified l.model) l.found
