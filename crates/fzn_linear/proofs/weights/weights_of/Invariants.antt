use Rattle.std.proofs.Common.{◌≡◌, take}
use Rattle.std.specs.List.{flat_map}
use Rattle.fzn_linear.specs.Counted.{place_weight}
use Rattle.fzn_linear.proofs.weights.weights_of.Given as goal

-- the weights of the variables of the places so far
abbrev pub invariant-loop-place : goal.invariant-loop-place
invariant-loop-place l = l.weights.items ≡ flat_map place_weight (take l.place-index l.places)
