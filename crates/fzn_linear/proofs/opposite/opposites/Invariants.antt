use Rattle.std.proofs.Common.{◌≡◌, take}
use Rattle.fzn_sum.specs.Opposite.{opposites}
use Rattle.fzn_linear.proofs.opposite.opposites.Given as goal

abbrev pub invariant-loop-place : goal.invariant-loop-place
invariant-loop-place l = l.all ≡ opposites (take l.place-index l.places)
