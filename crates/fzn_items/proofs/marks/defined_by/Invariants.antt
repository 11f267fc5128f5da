use Rattle.std.proofs.Common.{◌≡◌, length}
use Rattle.fzn_names.specs.Known.{known}
use Rattle.fzn_items.specs.Marks.{defined_by}
use Rattle.fzn_items.proofs.marks.defined_by.Given as goal

-- what is found from here on is what is found from the start
abbrev pub invariant-loop-anns : goal.invariant-loop-anns
invariant-loop-anns l = defined_by (known l.names) l.anns ≡ defined_by (known l.names) l.initial.anns

abbrev pub decreases-loop-anns : goal.decreases-loop-anns
decreases-loop-anns l = length l.anns
