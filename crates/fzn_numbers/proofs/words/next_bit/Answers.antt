use Rattle.std.proofs.Common.{arith, refl, ℕ, ◌/◌, ◌%◌, ◌*◌, ◌+◌, ◌≡◌, ◌<◌, ◌≤◌, false, length}
use Rattle.fzn_numbers.specs.Bits.{has_bit}
use Rattle.fzn_numbers.proofs.BitLemmas.{next_in_word, none_in_word, next_after, none_after, some_mapped, none_mapped}
use Rattle.fzn_numbers.proofs.words.next_bit.Goals as goal

pub returns-then-rest-ne0-clause-found : goal.returns-then-rest-ne0-clause-found
returns-then-rest-ne0-clause-found c =
    next_in_word c.args.words.now c.args.from (c.args.from / 64) (c.args.from % 64) (omega arith) (omega arith) (omega arith) (c.type_inv.words (c.args.from / 64)).fits _ (omega arith) refl

pub returns-clause-found : goal.returns-clause-found
returns-clause-found c =
    let words = c.args.words.now in
    let none : (k : ℕ) → c.args.from ≤ k → k < (c.args.from / 64 + 1) * 64 → has_bit words k ≡ false =
    λ k h l. none_in_word words c.args.from (c.args.from / 64) (c.args.from % 64) (omega arith) (omega arith) (omega arith) (c.type_inv.words (c.args.from / 64)).fits c.if-rest-ne0.false k h (omega arith) in
    some_mapped c.next_word.result (λ place found. next_after words c.args.from ((c.args.from / 64 + 1) * 64) none place (omega arith) found) c.next_word.ensures.found

pub returns-clause-none : goal.returns-clause-none
returns-clause-none c =
    let words = c.args.words.now in
    let none : (k : ℕ) → c.args.from ≤ k → k < (c.args.from / 64 + 1) * 64 → has_bit words k ≡ false =
    λ k h l. none_in_word words c.args.from (c.args.from / 64) (c.args.from % 64) (omega arith) (omega arith) (omega arith) (c.type_inv.words (c.args.from / 64)).fits c.if-rest-ne0.false k h (omega arith) in
    none_mapped c.next_word.result (λ rest k h l. none_after words c.args.from ((c.args.from / 64 + 1) * 64) none (length words * 64) k rest h l) c.next_word.ensures.none
