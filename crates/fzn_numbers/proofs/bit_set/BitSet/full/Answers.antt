use Rattle.std.proofs.Common.{◌≡◌, ◌*◌, ℕ, ℤ, List, ap, ap₂, subst₂, ◌∙◌, to_z-of_z}
use Rattle.fzn_numbers.specs.Bits.{members, whole_words}
use Rattle.fzn_numbers.specs.IntSet.{numbers_from, width}
use Rattle.fzn_numbers.proofs.NumberLemmas.{real}
use Rattle.fzn_numbers.proofs.BitSetLemmas.{members-full}
use Rattle.fzn_numbers.proofs.bit_set.BitSet.full.Goals as goal

pub returns : goal.returns
returns c =
    let low = real _ c.requires.low in
    let count : c.word_count.result * 64 ≡ whole_words (width c.args.low c.args.high) =
    subst₂ (λ (a b : ℤ). c.word_count.result * 64 ≡ whole_words (width a b)) low (to_z-of_z c.ranges.high) c.word_count.ensures.exact in
    ap₂ (λ (f : ℤ) (ws : List ℕ). members f ws) low c.in_ok-words.ensures
    ∙ members-full c.args.low c.word_count.result ∙ ap (numbers_from c.args.low) count
