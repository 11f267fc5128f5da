use Rattle.std.proofs.Common.{◌≡◌, ◌*◌, ℕ, pos, ◌+ℤ◌, List, arith, ap₂, ◌∙◌, to_z-of_z}
use Rattle.fzn_numbers.specs.Bits.{places, place_from, bits_below}
use Rattle.fzn_numbers.proofs.AscendingLemmas.{to_next}
use Rattle.fzn_numbers.proofs.NumberLemmas.{real}
use Rattle.fzn_numbers.proofs.BitSetLemmas.{size-within}
use Rattle.fzn_numbers.proofs.bit_set.BitSet.count_within.Goals as goal

pub returns : goal.returns
returns c =
    let words = c.self.inside.words.items in
    let first = real _ c.self.invariant.can_be_first in
    let low = to_z-of_z c.ranges.low in
    let high = to_next c.args.high c.ranges.high c.requires.below_greatest in
    let count : c.len-count.result * 64 ≡ places words = omega arith in
    let from : c.place_of-from.result ≡ place_from c.self.inside.first (places words) c.args.low = c.place_of-from.ensures ∙ (λ i. place_from (first i) (count i) (low i)) in
    let end : c.place_of-end.result ≡ place_from c.self.inside.first (places words) (c.args.high +ℤ pos 1) = c.place_of-end.ensures ∙ (λ i. place_from (first i) (count i) (high i)) in
    omega (
      arith,
      c.count_between.ensures,
      ap₂ (λ (ws : List ℕ) (n : ℕ). bits_below ws n) c.deref.ensures.value from,
      ap₂ (λ (ws : List ℕ) (n : ℕ). bits_below ws n) c.deref.ensures.value end,
      size-within c.self.inside.first words c.args.self.now c.self.view_is c.args.low c.args.high c.requires.ordered,
    )
