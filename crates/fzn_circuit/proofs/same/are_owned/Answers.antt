use Rattle.std.proofs.Common.{arith}
use Rattle.fzn_circuit.proofs.SameLemmas.{owned_different}
use Rattle.fzn_circuit.proofs.same.are_owned.Goals as goal

pub returns : goal.returns
returns c = λ told. owned_different c.args.pass.now.trail.now.sets c.args.pass.now.successors.now c.args.owners.now (λ k below. c.loop-k.invariant k (omega (arith, below, c.loop-k-test.false, c.loop-k.auto.k-end)))
