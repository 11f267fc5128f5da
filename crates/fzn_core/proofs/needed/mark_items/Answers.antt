use Rattle.std.proofs.Common.{arith}
use Rattle.fzn_core.proofs.MarksLemmas.{more-item}
use Rattle.fzn_core.proofs.needed.mark_items.Goals as goal

pub loop-item-preserved : goal.loop-item-preserved
loop-item-preserved c =
    more-item c.args.marks.now.items c.loop-item.marks.items c.mark_item.new.marks.items c.args.items.now c.loop-item.item-index c.item-item.result (omega (arith, c.loop-item-test.true, c.loop-item.auto.item-index-end)) c.item-item.is c.loop-item.invariant c.mark_item.ensures
