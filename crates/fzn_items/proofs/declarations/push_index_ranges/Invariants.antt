use Rattle.std.proofs.Common.{◌≡◌, ◌++◌, take}
use Rattle.std.specs.List.{flat_map}
use Rattle.fzn_items.specs.Declarations.{dimension_text}
use Rattle.fzn_items.proofs.declarations.push_index_ranges.Given as goal

abbrev pub invariant-loop-range : goal.invariant-loop-range
invariant-loop-range l = l.text.items ≡ l.initial.text.items ++ flat_map dimension_text (take l.range-index l.ranges)
