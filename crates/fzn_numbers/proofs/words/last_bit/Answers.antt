use Rattle.std.proofs.Common.{arith, ℕ, ◌/◌, ◌%◌, ◌*◌, ◌≡◌, ◌<◌, ◌≤◌, false}
use Rattle.fzn_numbers.specs.Bits.{has_bit}
use Rattle.fzn_numbers.proofs.BitLemmas.{last_of_low, last_before, none_low, none_below_end, some_mapped, none_mapped}
use Rattle.fzn_numbers.proofs.words.last_bit.Goals as goal

pub returns-then-low-ne0-clause-found : goal.returns-then-low-ne0-clause-found
returns-then-low-ne0-clause-found c =
    last_of_low c.args.words.now c.args.end (c.args.end / 64) (c.args.end % 64) c.low_word-low.result (omega arith) (omega arith) c.low_word-low.ensures (omega arith) c.if-low-ne0.true

pub returns-clause-found : goal.returns-clause-found
returns-clause-found c =
    let words = c.args.words.now in
    let none : (k : ℕ) → c.args.end / 64 * 64 ≤ k → k < c.args.end → has_bit words k ≡ false =
    λ k h l. none_low words (c.args.end / 64) (c.args.end % 64) c.low_word-low.result (omega arith) c.low_word-low.ensures c.if-low-ne0.false k h (omega arith) in
    some_mapped c.last_word.result (λ place found. last_before words (c.args.end / 64 * 64) c.args.end place (omega arith) none found) c.last_word.ensures.found

pub returns-clause-none : goal.returns-clause-none
returns-clause-none c =
    none_mapped c.last_word.result
    (λ before. none_below_end c.args.words.now c.args.end (c.args.end / 64) (c.args.end % 64) c.low_word-low.result (omega arith) (omega arith) c.low_word-low.ensures c.if-low-ne0.false before)
    c.last_word.ensures.none
