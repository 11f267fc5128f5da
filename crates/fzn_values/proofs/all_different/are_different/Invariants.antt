use Rattle.fzn_values.specs.AllDifferent.{FrontDiffers}
use Rattle.fzn_values.proofs.all_different.are_different.Given as goal

abbrev pub invariant-loop-place : goal.invariant-loop-place
invariant-loop-place l = FrontDiffers l.place l.places
