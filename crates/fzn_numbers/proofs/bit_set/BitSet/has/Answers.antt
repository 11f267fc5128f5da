use Rattle.std.proofs.Common.{◌≡◌, ◌*◌, ◌<ℤ◌, ◌≤ℤ◌, List, ℕ, arith, sym, ap, ◌∙◌, to_z-of_z, nat_lt, false}
use Rattle.std.proofs.lemmas.Bool.Decides.{nat_tests}
use Rattle.std.proofs.lemmas.Int.{ints}
use Rattle.fzn_numbers.specs.Bits.{places, has_bit, place_from}
use Rattle.fzn_numbers.proofs.NumberLemmas.{fits, real}
use Rattle.fzn_numbers.proofs.BitSetLemmas.{none_before, bit_from, none_behind}
use Rattle.fzn_numbers.proofs.bit_set.BitSet.has.Goals as goal

pub returns-then-value-self : goal.returns-then-value-self
returns-then-value-self c =
    let under : c.args.value <ℤ c.self.inside.first = omega (arith, ints, fits _ c.self.invariant.can_be_first) in
    sym (none_before c.self.inside.first c.self.inside.words.items c.args.self.now c.self.view_is c.args.value under)

pub returns-then-place-len : goal.returns-then-place-len
returns-then-place-len c =
    let words = c.self.inside.words.items in
    let from : c.self.inside.first ≤ℤ c.args.value = omega (arith, ints, fits _ c.self.invariant.can_be_first) in
    let first = real _ c.self.invariant.can_be_first in
    let value = to_z-of_z c.ranges.value in
    let count : c.len.result * 64 ≡ places words = omega arith in
    let place : c.place_of-place.result ≡ place_from c.self.inside.first (places words) c.args.value = c.place_of-place.ensures ∙ (λ i. place_from (first i) (count i) (value i)) in
    c.is_set.ensures ∙ ap (λ (ws : List ℕ). has_bit ws c.place_of-place.result) c.deref.ensures.value
    ∙ sym (bit_from c.self.inside.first words c.args.self.now c.self.view_is c.args.value c.place_of-place.result from place (omega arith))

pub returns-else-place-len : goal.returns-else-place-len
returns-else-place-len c =
    let words = c.self.inside.words.items in
    let first = real _ c.self.invariant.can_be_first in
    let value = to_z-of_z c.ranges.value in
    let count : c.len.result * 64 ≡ places words = omega arith in
    let place : c.place_of-place.result ≡ place_from c.self.inside.first (places words) c.args.value = c.place_of-place.ensures ∙ (λ i. place_from (first i) (count i) (value i)) in
    let out = none_behind c.self.inside.first words c.args.self.now c.self.view_is c.args.value c.place_of-place.result place (omega arith) in
    let test : nat_lt c.place_of-place.result (c.len-2.result * 64) ≡ false = grind (arith, nat_tests) in
    test ∙ sym out
