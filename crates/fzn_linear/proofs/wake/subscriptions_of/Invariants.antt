use Rattle.std.proofs.Common.{◌≡◌, take}
use Rattle.std.specs.List.{flat_map}
use Rattle.fzn_linear.specs.Wakes.{place_waits}
use Rattle.fzn_linear.proofs.wake.subscriptions_of.Given as goal

-- the subscriptions to the terms of the places so far
abbrev pub invariant-loop-place : goal.invariant-loop-place
invariant-loop-place l = l.subscriptions ≡ flat_map (place_waits l.propagator.wake) (take l.place-index l.places)
