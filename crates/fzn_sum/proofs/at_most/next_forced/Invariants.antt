use Rattle.std.proofs.Common.{pos, ◌≤ℤ◌}
use Rattle.std.specs.List.{AllWithin}
use Rattle.fzn_propagator.specs.Inference.{spread_of_place}
use Rattle.fzn_sum.proofs.at_most.next_forced.Given as goal

abbrev pub invariant-loop-i : goal.invariant-loop-i
invariant-loop-i l = AllWithin (λ place. spread_of_place l.trail.sets place ≤ℤ pos l.slack) l.places l.from l.i
