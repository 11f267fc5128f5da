use Rattle.std.proofs.Common.{◌≡◌, length, take}
use Rattle.std.specs.FinSet as set
use Rattle.fzn_numbers.specs.Bits.{members}
use Rattle.fzn_numbers.proofs.bit_set.BitSet.from_slice.Given as goal

abbrev pub invariant-loop-value : goal.invariant-loop-value
invariant-loop-value l = record {
  count : length l.words.items ≡ length l.initial.words.items;
  so_far : members l.low l.words.items ≡ set.from_list (take l.value-index l.values);
}
