use Rattle.std.proofs.Common.{◌-ℤ◌, ◌≤ℤ◌, take, pos}
use Rattle.fzn_cumulative.specs.Loads.{AreExplained}
use Rattle.fzn_cumulative.proofs.load.explain_uses.Given as goal

abbrev pub invariant-loop-k : goal.invariant-loop-k
invariant-loop-k l = record {
  not_negative : pos 0 ≤ℤ l.left;
  no_more : l.left ≤ℤ l.spare;
  explained : AreExplained l.pass.trail.now l.time l.except (l.spare -ℤ l.left) (take l.k l.pass.starts.now) (take l.k l.pass.durations.now) (take l.k l.pass.uses.now) l.fn.clause l.clause;
}
