use Rattle.std.proofs.Common.{◌≡◌, ℕ, ◌-◌, ◌*◌, ◌<◌, ◌≤◌, false, length}
use Rattle.fzn_numbers.specs.Bits.{has_bit}
use Rattle.fzn_numbers.proofs.words.next_word.Given as goal

abbrev pub invariant-loop-at : goal.invariant-loop-at
invariant-loop-at l = record {
  low : l.first ≤ l.at;
  in_words : l.at ≤ length l.words;
  none : (k : ℕ) → l.first * 64 ≤ k → k < l.at * 64 → has_bit l.words k ≡ false;
}

abbrev pub decreases-loop-at : goal.decreases-loop-at
decreases-loop-at l = length l.words - l.at
