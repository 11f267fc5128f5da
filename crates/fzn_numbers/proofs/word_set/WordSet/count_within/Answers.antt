use Rattle.std.proofs.Common.{◌≡◌, ℕ, pos, ◌+ℤ◌, [], ◌∷◌, arith, ap, ◌∙◌, to_z-of_z}
use Rattle.fzn_numbers.specs.Bits.{place_from, bits_below}
use Rattle.fzn_numbers.proofs.AscendingLemmas.{to_next}
use Rattle.fzn_numbers.proofs.NumberLemmas.{real}
use Rattle.fzn_numbers.proofs.BitSetLemmas.{size-within}
use Rattle.fzn_numbers.proofs.word_set.WordSet.count_within.Goals as goal

pub returns : goal.returns
returns c =
    let first = real _ c.self.invariant.can_be_first in
    let low = to_z-of_z c.ranges.low in
    let high = to_next c.args.high c.ranges.high c.requires.below_greatest in
    let from : c.place_of-from.result ≡ place_from c.self.inside.first 64 c.args.low = c.place_of-from.ensures ∙ (λ i. place_from (first i) 64 (low i)) in
    let end : c.place_of-end.result ≡ place_from c.self.inside.first 64 (c.args.high +ℤ pos 1) = c.place_of-end.ensures ∙ (λ i. place_from (first i) 64 (high i)) in
    omega (
      arith,
      c.count_between.ensures,
      ap (λ (n : ℕ). bits_below (c.self.inside.word ∷ []) n) from,
      ap (λ (n : ℕ). bits_below (c.self.inside.word ∷ []) n) end,
      size-within c.self.inside.first (c.self.inside.word ∷ []) c.args.self.now c.self.view_is c.args.low c.args.high c.requires.ordered,
    )
