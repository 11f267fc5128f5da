use Rattle.std.proofs.Common.{arith, refl, ℕ, ◌/◌, ◌%◌, ◌*◌, ◌+◌, ◌≡◌, ◌<◌, ◌≤◌, true}
use Rattle.fzn_numbers.specs.Bits.{has_bit}
use Rattle.fzn_numbers.proofs.BitLemmas.{gap_in_word, all_in_word, gap_after}
use Rattle.fzn_numbers.proofs.words.next_gap.Goals as goal

pub returns-then-rest-ne0 : goal.returns-then-rest-ne0
returns-then-rest-ne0 c =
    gap_in_word c.args.words.now c.args.from (c.args.from / 64) (c.args.from % 64) _ (omega arith) (omega arith) (omega arith) (c.type_inv.words (c.args.from / 64)).fits refl _ (omega arith) refl

pub returns : goal.returns
returns c =
    let words = c.args.words.now in
    let all : (k : ℕ) → c.args.from ≤ k → k < (c.args.from / 64 + 1) * 64 → has_bit words k ≡ true =
    λ k h l. all_in_word words c.args.from (c.args.from / 64) (c.args.from % 64) _ (omega arith) (omega arith) (omega arith) (c.type_inv.words (c.args.from / 64)).fits refl c.if-rest-ne0.false k h (omega arith) in
    gap_after words c.args.from ((c.args.from / 64 + 1) * 64) c.next_word_with_gap.result (omega arith) all c.next_word_with_gap.ensures
