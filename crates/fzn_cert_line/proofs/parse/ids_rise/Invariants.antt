use Rattle.std.proofs.Common.{◌≡◌, length}
use Rattle.fzn_cert.specs.Reading.{ids_rise}
use Rattle.fzn_cert_line.proofs.parse.ids_rise.Given as goal

abbrev pub invariant-loop-left : goal.invariant-loop-left
invariant-loop-left l = ids_rise l.left ≡ ids_rise l.initial.left

abbrev pub decreases-loop-left : goal.decreases-loop-left
decreases-loop-left l = length l.left
