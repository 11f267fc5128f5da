use Rattle.std.proofs.Common.{arith}
use Rattle.fzn_core.proofs.MarksLemmas.{more-next}
use Rattle.fzn_core.proofs.needed.mark_all.Goals as goal

pub loop-number-preserved : goal.loop-number-preserved
loop-number-preserved c =
    more-next c.args.marks.now.items c.loop-number.marks.items c.mark.new.marks.items c.args.numbers.now c.loop-number.number-index _ (omega (arith, c.loop-number-test.true, c.loop-number.auto.number-index-end)) c.loop-number.invariant c.mark.ensures
