use Rattle.std.proofs.Common.{◌≡◌, length, map, filter}
use Rattle.fzn_names.specs.Annotations.{is_output, position_of_ann}
use Rattle.fzn_names.specs.Positions.{first}
use Rattle.fzn_names.proofs.annotation.first_output.Given as goal

-- what is found from here on is what is found from the start
abbrev pub invariant-loop-anns : goal.invariant-loop-anns
invariant-loop-anns l = first (map position_of_ann (filter is_output l.anns)) ≡ first (map position_of_ann (filter is_output l.initial.anns))

abbrev pub decreases-loop-anns : goal.decreases-loop-anns
decreases-loop-anns l = length l.anns
