use Rattle.std.proofs.Common.{◌≡◌, ◌++◌, length, map, filter}
use Rattle.fzn_names.specs.Annotations.{is_array_mark}
use Rattle.fzn_names.specs.Outputs.{array_item}
use Rattle.fzn_names.specs.Known.{known}
use Rattle.fzn_names.proofs.output.show_array.Given as goal

-- those so far, and those to come
abbrev pub invariant-loop-anns : goal.invariant-loop-anns
invariant-loop-anns l = l.shown ++ map (array_item (known l.names) l.var) (filter (is_array_mark (length l.var.array.entries)) l.anns)
    ≡ l.initial.shown ++ map (array_item (known l.names) l.var) (filter (is_array_mark (length l.var.array.entries)) l.initial.anns)

abbrev pub decreases-loop-anns : goal.decreases-loop-anns
decreases-loop-anns l = length l.anns
