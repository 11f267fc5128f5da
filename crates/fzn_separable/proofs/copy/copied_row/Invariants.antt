use Rattle.std.proofs.Common.{◌≡◌, take}
use Rattle.fzn_separable.proofs.copy.copied_row.Given as goal

abbrev pub invariant-loop-part : goal.invariant-loop-part
invariant-loop-part l = l.parts ≡ take l.part-index l.row.parts
