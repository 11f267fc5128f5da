use Rattle.std.proofs.Common.{◌≡◌, take, [], ◌∷◌}
use Rattle.std.specs.FinSet as set
use Rattle.fzn_numbers.specs.Bits.{members}
use Rattle.fzn_numbers.proofs.word_set.WordSet.from_slice.Given as goal

abbrev pub invariant-loop-value : goal.invariant-loop-value
invariant-loop-value l = members l.low (l.word ∷ []) ≡ set.from_list (take l.value-index l.values)
