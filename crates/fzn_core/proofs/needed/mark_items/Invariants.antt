use Rattle.std.proofs.Common.{take}
use Rattle.fzn_row.specs.Derived.{all_cited}
use Rattle.fzn_core.specs.Marks.{HasMore}
use Rattle.fzn_core.proofs.needed.mark_items.Given as goal

abbrev pub invariant-loop-item : goal.invariant-loop-item
invariant-loop-item l = HasMore l.initial.marks.items l.marks.items (all_cited (take l.item-index l.items))
