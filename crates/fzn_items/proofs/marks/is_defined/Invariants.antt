use Rattle.std.proofs.Common.{◌≡◌, length}
use Rattle.fzn_items.specs.Marks.{is_defined}
use Rattle.fzn_items.proofs.marks.is_defined.Given as goal

-- what is found from here on is what is found from the start
abbrev pub invariant-loop-anns : goal.invariant-loop-anns
invariant-loop-anns l = is_defined l.anns ≡ is_defined l.initial.anns

abbrev pub decreases-loop-anns : goal.decreases-loop-anns
decreases-loop-anns l = length l.anns
