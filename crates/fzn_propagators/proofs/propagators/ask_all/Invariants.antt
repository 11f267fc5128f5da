use Rattle.std.specs.Prelude.{◌≡◌, []}
use Rattle.std.specs.List.{All, AllWithin}
use Rattle.fzn_propagator.specs.Constraints.{IsInferenceJustified}
use Rattle.fzn_propagator.specs.Inference.{AreExhausted}
use Rattle.fzn_propagators.proofs.propagators.ask_all.Given as goal

-- the propagators before this place find nothing
abbrev pub invariant-loop-place : goal.invariant-loop-place
invariant-loop-place g l = record {
  none : AllWithin (λ p. AreExhausted (g.P.Propagator.is_for p) l.trail) l.items 0 l.place;
  rest : All (IsInferenceJustified l.model) l.found;
  left : l.found ≡ [];
}
