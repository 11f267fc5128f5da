use Rattle.std.proofs.Common.{◌≡◌, ◌<◌, ℤ, pos, ◌+ℤ◌, ◌<ℤ◌, ◌≤ℤ◌, [], ◌∷◌, ap, sym, subst₂, ◌∙◌, to_z-of_z, bit_and, ◌-◌, ◌*◌, ◌^◌, ◌%◌}
use Rattle.fzn_numbers.proofs.NumberLemmas.{real}
use Rattle.fzn_numbers.proofs.BitSetLemmas.{from_the_first, near_first, place_within, members-cleared}
use Rattle.fzn_numbers.proofs.WordLemmas.{word_cleared}
use Rattle.fzn_numbers.proofs.word_set.WordSet.remove.Goals as goal

pub offset-place-requires-clause-from_first : goal.offset-place-requires-clause-from_first
offset-place-requires-clause-from_first c =
    subst₂ (λ (f v : ℤ). f ≤ℤ v) (sym (real _ c.self.invariant.can_be_first)) (sym (to_z-of_z c.ranges.value))
    (from_the_first c.self.inside.first (c.self.inside.word ∷ []) c.args.self.now c.self.view_is c.args.value c.requires)

pub offset-place-requires-clause-near : goal.offset-place-requires-clause-near
offset-place-requires-clause-near c =
    subst₂ (λ (f v : ℤ). v <ℤ (f +ℤ pos 16384)) (sym (real _ c.self.invariant.can_be_first)) (sym (to_z-of_z c.ranges.value))
    (near_first c.self.inside.first (c.self.inside.word ∷ []) c.args.self.now c.self.view_is c.args.value c.requires c.self.invariant.few)

pub overflow_shl-self : goal.overflow_shl-self
overflow_shl-self c =
    let at : c.args.value ≡ c.self.inside.first +ℤ pos c.offset-place.result =
    sym (to_z-of_z c.ranges.value) ∙ c.offset-place.ensures ∙ ap (λ (f : ℤ). f +ℤ pos c.offset-place.result) (real _ c.self.invariant.can_be_first) in
    place_within c.self.inside.first (c.self.inside.word ∷ []) c.args.self.now c.self.view_is c.args.value c.requires c.offset-place.result at

pub returns : goal.returns
returns c =
    let first = c.self.inside.first in
    let word = c.self.inside.word in
    let place = c.offset-place.result in
    let at : c.args.value ≡ first +ℤ pos place =
    sym (to_z-of_z c.ranges.value) ∙ c.offset-place.ensures ∙ ap (λ (f : ℤ). f +ℤ pos place) (real _ c.self.invariant.can_be_first) in
    let inside : place < 64 = place_within first (word ∷ []) c.args.self.now c.self.view_is c.args.value c.requires place at in
    members-cleared first (word ∷ []) (bit_and word (18446744073709551615 - 1 * 2 ^ place % 18446744073709551616) ∷ []) c.args.self.now c.self.view_is c.args.value place at inside (word_cleared word place inside)
