use Rattle.std.proofs.Common.{◌≤◌, length}
use Rattle.fzn_cumulative.proofs.profile.ended_by.Given as goal

abbrev pub invariant-loop : goal.invariant-loop
invariant-loop l = record {
  in_order : l.low ≤ l.high;
  inside : l.high ≤ length l.stretches;
}
