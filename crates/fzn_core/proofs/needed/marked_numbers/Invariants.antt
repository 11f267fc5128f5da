use Rattle.std.proofs.Common.{◌≡◌}
use Rattle.std.specs.List.{filter, range_with_len}
use Rattle.fzn_core.specs.Marks.{mark_at}
use Rattle.fzn_core.proofs.needed.marked_numbers.Given as goal

abbrev pub invariant-loop-before : goal.invariant-loop-before
invariant-loop-before l = l.numbers.items ≡ filter (mark_at l.marks) (range_with_len 1 l.before)
