use Rattle.std.proofs.Common.{◌≡◌, length}
use Rattle.fzn_cert.specs.Reading.{rises}
use Rattle.fzn_cert_line.proofs.rule.rises.Given as goal

abbrev pub invariant-loop-left : goal.invariant-loop-left
invariant-loop-left l = rises l.left ≡ rises l.initial.left

abbrev pub decreases-loop-left : goal.decreases-loop-left
decreases-loop-left l = length l.left
