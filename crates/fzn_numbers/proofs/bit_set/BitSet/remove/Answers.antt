use Rattle.std.proofs.Common.{◌≡◌, ◌<◌, ℕ, ℤ, pos, ◌+ℤ◌, ◌<ℤ◌, ◌≤ℤ◌, List, false, ap, sym, subst, subst₂, ◌∙◌, to_z-of_z}
use Rattle.std.specs.Vec.{with_items}
use Rattle.std.proofs.lemmas.List.{with_items_is}
use Rattle.fzn_numbers.specs.Bits.{places, members, IsWritten}
use Rattle.fzn_numbers.specs.Bits.{CanBeFirst}
use Rattle.fzn_numbers.proofs.NumberLemmas.{real}
use Rattle.fzn_numbers.proofs.BitSetLemmas.{from_the_first, near_first, place_within, members-cleared}
use Rattle.fzn_numbers.proofs.bit_set.BitSet.remove.Goals as goal

pub offset-place-requires : goal.offset-place-requires
offset-place-requires c =
    let inside = c.self.inside in
    let first = sym (real _ c.self.invariant.can_be_first) in
    let value = sym (to_z-of_z c.ranges.value) in
    record {
      first = subst CanBeFirst first c.self.invariant.can_be_first;
      from_first = subst₂ (λ (f v : ℤ). f ≤ℤ v) first value (from_the_first inside.first inside.words.items c.args.self.now c.self.view_is c.args.value c.requires);
      near = subst₂ (λ (f v : ℤ). v <ℤ (f +ℤ pos 16384)) first value (near_first inside.first inside.words.items c.args.self.now c.self.view_is c.args.value c.requires c.self.invariant.few);
    }

pub clear_bit-requires : goal.clear_bit-requires
clear_bit-requires c =
    let inside = c.self.inside in
    let at : c.args.value ≡ inside.first +ℤ pos c.offset-place.result =
    sym (to_z-of_z c.ranges.value) ∙ c.offset-place.ensures ∙ ap (λ (f : ℤ). f +ℤ pos c.offset-place.result) (real _ c.self.invariant.can_be_first) in
    subst (λ (ws : List ℕ). c.offset-place.result < places ws) (sym c.deref_mut.ensures.value)
    (place_within inside.first inside.words.items c.args.self.now c.self.view_is c.args.value c.requires c.offset-place.result at)

pub returns : goal.returns
returns c =
    let inside = c.self.inside in
    let new : (with_items inside.words c.clear_bit.new.words).items ≡ c.clear_bit.new.words =
    with_items_is inside.words c.clear_bit.new.words (c.clear_bit.ensures.same_length ∙ c.deref_mut.ensures.len) in
    let at : c.args.value ≡ inside.first +ℤ pos c.offset-place.result =
    sym (to_z-of_z c.ranges.value) ∙ c.offset-place.ensures ∙ ap (λ (f : ℤ). f +ℤ pos c.offset-place.result) (real _ c.self.invariant.can_be_first) in
    let place = place_within inside.first inside.words.items c.args.self.now c.self.view_is c.args.value c.requires c.offset-place.result at in
    ap (λ (ws : List ℕ). members inside.first ws) new
    ∙ members-cleared inside.first inside.words.items c.clear_bit.new.words c.args.self.now c.self.view_is c.args.value c.offset-place.result at place
    (subst (λ (ws : List ℕ). IsWritten ws c.clear_bit.new.words c.offset-place.result false) c.deref_mut.ensures.value c.clear_bit.ensures)
