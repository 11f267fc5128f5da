use Rattle.fzn_clauses.proofs.SweepLemmas.{Sweeps-none, Sweeps-join, held-Sweeps, KeepsWatching-Sweeps}
use Rattle.fzn_clauses.proofs.clauses.Clauses.sweep.Goals as goal

pub loop-key-init : goal.loop-key-init
loop-key-init c = Sweeps-none c.args.self.now

pub loop-key-preserved : goal.loop-key-preserved
loop-key-preserved c = Sweeps-join c.args.self.now c.loop-key.self c.sweep_list.new.self c.loop-key.invariant c.sweep_list.ensures

pub returns-clause-held : goal.returns-clause-held
returns-clause-held c = held-Sweeps c.args.self.now c.loop-key.self c.loop-key.invariant

pub returns-clause-watching : goal.returns-clause-watching
returns-clause-watching c = KeepsWatching-Sweeps c.args.self.now c.loop-key.self c.loop-key.invariant
