use Rattle.std.proofs.Common.{◌≡◌, ◌++◌, take}
use Rattle.std.specs.List.{flat_map}
use Rattle.fzn_items.specs.Ending.{search_line}
use Rattle.fzn_items.proofs.ending.push_searches.Given as goal

abbrev pub invariant-loop-annotation : goal.invariant-loop-annotation
invariant-loop-annotation l = l.text.items ≡ l.initial.text.items ++ flat_map search_line (take l.annotation-index l.annotations)
