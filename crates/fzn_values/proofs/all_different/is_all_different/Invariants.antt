use Rattle.std.proofs.Common.{◌*◌}
use Rattle.fzn_values.specs.AllDifferent.{FrontDiffers}
use Rattle.fzn_values.proofs.all_different.is_all_different.Given as goal

abbrev pub invariant-loop-block : goal.invariant-loop-block
invariant-loop-block l = FrontDiffers (l.block * 512) l.places
