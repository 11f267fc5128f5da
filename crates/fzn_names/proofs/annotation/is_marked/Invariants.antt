use Rattle.std.proofs.Common.{◌≡◌, length}
use Rattle.fzn_names.specs.Annotations.{is_marked}
use Rattle.fzn_names.proofs.annotation.is_marked.Given as goal

-- what is found from here on is what is found from the start
abbrev pub invariant-loop-anns : goal.invariant-loop-anns
invariant-loop-anns l = is_marked l.anns ≡ is_marked l.initial.anns

abbrev pub decreases-loop-anns : goal.decreases-loop-anns
decreases-loop-anns l = length l.anns
