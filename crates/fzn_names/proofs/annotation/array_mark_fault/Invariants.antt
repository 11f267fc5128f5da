use Rattle.std.proofs.Common.{◌≡◌, length}
use Rattle.fzn_names.specs.Annotations.{is_bad_array_mark, mark_faults}
use Rattle.fzn_names.specs.Positions.{first}
use Rattle.fzn_names.proofs.annotation.array_mark_fault.Given as goal

-- what is found from here on is what is found from the start
abbrev pub invariant-loop-anns : goal.invariant-loop-anns
invariant-loop-anns l = first (mark_faults (is_bad_array_mark l.count) l.anns) ≡ first (mark_faults (is_bad_array_mark l.count) l.initial.anns)

abbrev pub decreases-loop-anns : goal.decreases-loop-anns
decreases-loop-anns l = length l.anns
