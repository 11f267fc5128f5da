use Rattle.std.proofs.Common.{take}
use Rattle.fzn_core.specs.Marks.{HasMore}
use Rattle.fzn_core.proofs.needed.mark_all.Given as goal

abbrev pub invariant-loop-number : goal.invariant-loop-number
invariant-loop-number l = HasMore l.initial.marks.items l.marks.items (take l.number-index l.numbers)
