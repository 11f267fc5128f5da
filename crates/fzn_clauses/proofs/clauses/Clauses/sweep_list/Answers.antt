use Rattle.std.proofs.Common.{arith}
use Rattle.fzn_clauses.proofs.SweepLemmas.{Sweeps-none, Sweeps-join}
use Rattle.fzn_clauses.proofs.clauses.Clauses.sweep_list.Goals as goal

pub loop-j-init : goal.loop-j-init
loop-j-init c = record { sweeps = Sweeps-none c.args.self.now; within = omega (arith, c.len-j.ensures) }

pub loop-j-preserved : goal.loop-j-preserved
loop-j-preserved c = record {
  sweeps = Sweeps-join c.args.self.now c.loop-j.self c.sweep_place.new.self c.loop-j.invariant.sweeps c.sweep_place.ensures.sweeps;
  within = c.sweep_place.ensures.left;
}
