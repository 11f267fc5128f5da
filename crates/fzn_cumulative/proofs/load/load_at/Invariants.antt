use Rattle.std.proofs.Common.{◌≡◌, ◌*◌, ◌≤ℤ◌, take, pos}
use Rattle.fzn_cumulative.specs.Loads.{total_of}
use Rattle.fzn_cumulative.proofs.load.load_at.Given as goal

abbrev pub invariant-loop-k : goal.invariant-loop-k
invariant-loop-k l = record {
  so_far : l.load ≡ total_of l.pass.trail.now.sets l.time (take l.k l.pass.starts.now) (take l.k l.pass.durations.now) (take l.k l.pass.uses.now);
  not_negative : pos 0 ≤ℤ l.load;
  bounded : l.load ≤ℤ pos (l.k * 1000000000);
}
