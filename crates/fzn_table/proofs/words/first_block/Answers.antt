use Rattle.std.proofs.Common.{arith, []}
use Rattle.fzn_table.proofs.WordsLemmas.{apart_more}
use Rattle.fzn_table.proofs.words.first_block.Goals as goal

pub loop-i-preserved : goal.loop-i-preserved
loop-i-preserved c =
    apart_more c.args.words.now c.args.others.now c.as_chunks.result.0.now c.as_chunks-2.result.0.now _ _ c.loop-i.i [] []
    c.as_chunks.ensures.front c.as_chunks-2.ensures.front (omega arith) (omega arith) c.loop-i.invariant (c.has_common.ensures c.if-has_common.false)
