use Rattle.std.proofs.Common.{arith}
use Rattle.fzn_core.proofs.MarksLemmas.{more-multiple}
use Rattle.fzn_core.proofs.needed.mark_multiples.Goals as goal

pub loop-multiple-preserved : goal.loop-multiple-preserved
loop-multiple-preserved c =
    more-multiple c.args.marks.now.items c.loop-multiple.marks.items c.mark.new.marks.items c.args.multiples.now c.loop-multiple.multiple-index _ (omega (arith, c.loop-multiple-test.true, c.loop-multiple.auto.multiple-index-end)) c.loop-multiple.invariant c.mark.ensures
