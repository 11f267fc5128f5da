use Rattle.std.proofs.Common.{arith}
use Rattle.std.proofs.lemmas.Int.{ints}
use Rattle.fzn_globals.proofs.DifferentLemmas.{rising_more, rising_apart}
use Rattle.fzn_globals.proofs.all_different.are_rising.Goals as goal

pub loop-k-preserved : goal.loop-k-preserved
loop-k-preserved c = rising_more c.args.values.now c.loop-k.k (omega (arith, c.loop-k.auto.k)) (omega (arith, ints, c.if-values-k.false)) c.loop-k.invariant

pub returns : goal.returns
returns c = λ told. rising_apart c.args.values.now (λ i j less below. c.loop-k.invariant i j less (omega (arith, below, c.loop-k-test.false, c.loop-k.auto.k, c.loop-k.auto.k-end)))
