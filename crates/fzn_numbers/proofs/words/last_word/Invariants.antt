use Rattle.std.proofs.Common.{◌≡◌, ℕ, ◌*◌, ◌<◌, ◌≤◌, false}
use Rattle.fzn_numbers.specs.Bits.{has_bit}
use Rattle.fzn_numbers.proofs.words.last_word.Given as goal

abbrev pub invariant-loop-at : goal.invariant-loop-at
invariant-loop-at l = record {
  high : l.at ≤ l.end;
  none : (k : ℕ) → l.at * 64 ≤ k → k < l.end * 64 → has_bit l.words k ≡ false;
}

abbrev pub decreases-loop-at : goal.decreases-loop-at
decreases-loop-at l = l.at
