use Rattle.std.proofs.Common.{◌≡◌, ◌*◌, ◌≤ℤ◌, take, pos}
use Rattle.fzn_cumulative.specs.Energies.{energies_of}
use Rattle.fzn_cumulative.proofs.energy.energies_of.Given as goal

abbrev pub invariant-loop-k : goal.invariant-loop-k
invariant-loop-k l = record {
  so_far : l.energy ≡ energies_of l.pass.trail.now.sets l.span.from l.span.until (take l.k l.pass.starts.now) (take l.k l.pass.durations.now) (take l.k l.pass.uses.now);
  low : pos 0 ≤ℤ l.energy;
  high : l.energy ≤ℤ pos (l.k * 1000000000000000000);
}
