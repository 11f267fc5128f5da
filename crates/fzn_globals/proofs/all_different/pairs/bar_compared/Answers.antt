use Rattle.std.proofs.Common.{arith}
use Rattle.fzn_globals.proofs.KindLemmas.{different_met}
use Rattle.fzn_globals.proofs.all_different.pairs.bar_compared.Goals as goal

pub returns-clause-none : goal.returns-clause-none
returns-clause-none c = λ nothing. different_met c.args.pass.now.trail.now c.args.pass.now.places.now c.args.pass.now.fit (λ i below. c.loop-i.invariant.apart nothing i (omega (arith, below, c.loop-i-test.false, c.loop-i.auto.i-end)))
