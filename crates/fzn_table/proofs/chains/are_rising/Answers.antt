use Rattle.std.proofs.Common.{arith}
use Rattle.std.proofs.lemmas.Int.{ints}
use Rattle.fzn_table.proofs.ChainLemmas.{rising_more, rising_apart}
use Rattle.fzn_table.proofs.chains.are_rising.Goals as goal

pub loop-k-preserved : goal.loop-k-preserved
loop-k-preserved c = rising_more c.args.numbers.now c.loop-k.k (omega (arith, c.loop-k.auto.k)) (omega (arith, ints, c.if-numbers-k.false)) c.loop-k.invariant

pub returns : goal.returns
returns c = λ told i j less below. rising_apart c.args.numbers.now c.loop-k.k i j c.loop-k.invariant less (omega (arith, below, c.loop-k-test.false, c.loop-k.auto.k, c.loop-k.auto.k-end))
