use Rattle.std.proofs.Common.{◌≡◌, ◌<◌, ◌*◌, ◌^◌, ◌%◌, ℤ, pos, ◌+ℤ◌, [], ◌∷◌, get_or, refl, ap, sym, ◌∙◌, bit_or, to_z, of_z, to_z-of_z, w64}
use Rattle.fzn_numbers.specs.Bits.{members}
use Rattle.fzn_numbers.proofs.NumberLemmas.{real}
use Rattle.fzn_numbers.proofs.AscendingLemmas.{added_next}
use Rattle.fzn_numbers.proofs.BitSetLemmas.{members-none, members-set}
use Rattle.fzn_numbers.proofs.WordLemmas.{word_set, near_fits, near_place}
use Rattle.fzn_numbers.proofs.word_set.WordSet.from_slice.Goals as goal

pub loop-value-init : goal.loop-value-init
loop-value-init c = members-none _ 1

pub loop-value-preserved : goal.loop-value-preserved
loop-value-preserved c =
    let word = c.loop-value.word in
    let value = get_or c.args.values.now c.loop-value.value-index (pos 0) in
    let low = to_z w64 (of_z w64 c.args.low) in
    let place = c.offset.result in
    let near = c.requires.near c.loop-value.value-index (pos 0) c.loop-value-test.true in
    let at : value ≡ low +ℤ pos place = sym (to_z-of_z (near_fits c.args.low value c.requires.low near.0 near.1)) ∙ c.offset.ensures in
    let inside : place < 64 = near_place c.args.low value place (at ∙ ap (λ (f : ℤ). f +ℤ pos place) (real _ c.requires.low)) near.1 in
    added_next c.args.values.now c.loop-value.value-index (members low (word ∷ [])) (members low (bit_or word (1 * 2 ^ place % 18446744073709551616) ∷ [])) c.loop-value-test.true c.loop-value.invariant
    (members-set low (word ∷ []) (bit_or word (1 * 2 ^ place % 18446744073709551616) ∷ []) (members low (word ∷ [])) refl value place at inside (word_set word place inside))
