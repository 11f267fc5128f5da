use Rattle.std.proofs.Common.{◌≡◌, ◌+◌, ◌*◌, ◌/◌, ◌≤◌}
use Rattle.fzn_numbers.specs.Bits.{bits_below}
use Rattle.fzn_numbers.proofs.words.count_between.Given as goal

abbrev pub invariant-loop-word : goal.invariant-loop-word
invariant-loop-word l = record {
  sum : l.count + bits_below l.words (l.from / 64 * 64) ≡ l.initial.count + bits_below l.words ((l.from / 64 + l.word-index) * 64);
  few : l.count ≤ 64 + 64 * l.word-index;
}
