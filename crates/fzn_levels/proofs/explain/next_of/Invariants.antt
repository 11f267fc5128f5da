use Rattle.std.proofs.Common.{ℕ, ◌<◌, ◌≤◌, get_or}
use Rattle.fzn_levels.proofs.explain.next_of.Given as goal

abbrev pub invariant-loop-number : goal.invariant-loop-number
invariant-loop-number l = record {
  low : l.start ≤ l.next;
  high : l.next ≤ l.end;
  none : (k : ℕ) → k < l.number-index → l.start ≤ get_or l.numbers k 0 → get_or l.numbers k 0 < l.end → l.next ≤ get_or l.numbers k 0;
}
