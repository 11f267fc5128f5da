use Rattle.std.proofs.Common.{◌≡◌, ◌≤◌, ◌-◌, length, take}
use Rattle.std.specs.Io.KnownBytes.{Appends}
use Rattle.fzn_streams.proofs.output.put.Given as goal

abbrev pub invariant-loop-written : goal.invariant-loop-written
invariant-loop-written g l = record {
  within : l.written ≤ length l.bytes;
  so_far : Appends (g.W.Write.contents l.initial.out) (g.W.Write.contents l.out) (take l.written l.bytes);
  same : g.W.TrackedWrite.stream l.out ≡ g.W.TrackedWrite.stream l.initial.out;
}

abbrev pub decreases-loop-written : goal.decreases-loop-written
decreases-loop-written g l = length l.bytes - l.written
