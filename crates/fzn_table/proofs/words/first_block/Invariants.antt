use Rattle.std.proofs.Common.{◌*◌}
use Rattle.fzn_table.specs.Words.{HaveNoCommonBit}
use Rattle.fzn_table.proofs.words.first_block.Given as goal

abbrev pub invariant-loop-i : goal.invariant-loop-i
invariant-loop-i l = HaveNoCommonBit l.words l.others (l.i * 4)
