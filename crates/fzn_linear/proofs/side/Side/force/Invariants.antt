use Rattle.std.proofs.Common.{◌≡◌, [], pos, ◌≤ℤ◌}
use Rattle.std.specs.List.{AllWithin}
use Rattle.fzn_propagator.specs.Inference.{spread_of_place}
use Rattle.fzn_linear.specs.Passes.{AddsFound}
use Rattle.fzn_linear.proofs.side.Side.force.Given as goal

abbrev pub invariant-loop-place : goal.invariant-loop-place
invariant-loop-place l = record {
  adds : AddsFound l.self.pass l.fn.found l.found;
  none : l.found ≡ [] → AllWithin (λ place. spread_of_place l.part.trail.now.sets place ≤ℤ pos l.slack) l.part.places.now 0 l.place;
}
