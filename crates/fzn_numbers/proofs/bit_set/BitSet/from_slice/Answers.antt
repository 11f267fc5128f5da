use Rattle.std.proofs.Common.{refl, ◌≡◌, ◌<◌, ◌*◌, ℕ, ℤ, pos, ◌+ℤ◌, ◌<ℤ◌, List, length, get_or, true, arith, ap, sym, subst, ◌∙◌, to_z, of_z, to_z-of_z, w64, rules}
use Rattle.std.specs.Vec.{with_items}
use Rattle.std.proofs.lemmas.List.{with_items_is}
use Rattle.fzn_numbers.specs.Bits.{places, members, IsWritten}
use Rattle.fzn_numbers.proofs.AscendingLemmas.{added_next}
use Rattle.fzn_numbers.proofs.BitSetLemmas.{members-none, members-set, place_near, fits_between, same_count}
use Rattle.fzn_numbers.proofs.bit_set.BitSet.from_slice.Goals as goal

pub loop-value-init : goal.loop-value-init
loop-value-init c = record {
  count = search rules;
  so_far = ap (λ (ws : List ℕ). members (to_z w64 (of_z w64 c.args.low)) ws) c.in_ok-words.ensures ∙ members-none _ c.word_count.result;
}

pub loop-value-preserved : goal.loop-value-preserved
loop-value-preserved c =
    let inv = c.loop-value.invariant in
    let old = c.loop-value.words.items in
    let value = get_or c.args.values.now c.loop-value.value-index (pos 0) in
    let low = to_z w64 (of_z w64 c.args.low) in
    let new : (with_items c.loop-value.words c.set_bit.new.words).items ≡ c.set_bit.new.words =
    with_items_is c.loop-value.words c.set_bit.new.words (c.set_bit.ensures.same_length ∙ c.deref_mut.ensures.len) in
    let written : IsWritten old c.set_bit.new.words c.offset-place.result true =
    subst (λ (ws : List ℕ). IsWritten ws c.set_bit.new.words c.offset-place.result true) c.deref_mut.ensures.value c.set_bit.ensures in
    let between = c.requires.between c.loop-value.value-index (pos 0) c.loop-value-test.true in
    let at : value ≡ low +ℤ pos c.offset-place.result =
    sym (to_z-of_z (fits_between c.args.low c.args.high value c.ranges.low c.ranges.high between.0 between.1)) ∙ c.offset-place.ensures in
    let enough : c.args.high <ℤ (low +ℤ pos (c.word_count.result * 64)) = subst (λ (b : ℤ). b <ℤ (low +ℤ pos (c.word_count.result * 64))) (to_z-of_z c.ranges.high) c.word_count.ensures.enough in
    let count : length old ≡ c.word_count.result = inv.count ∙ ap (λ (ws : List ℕ). length ws) c.in_ok-words.ensures ∙ same_count c.word_count.result 0 in
    let inside : c.offset-place.result < places old =
    omega (arith, place_near low c.args.high value c.offset-place.result (c.word_count.result * 64) at between.1 enough) in
    record {
      count = ap (λ (ws : List ℕ). length ws) new ∙ written.same_length ∙ inv.count;
      so_far =
          ap (λ (ws : List ℕ). members low ws) new
          ∙ added_next c.args.values.now c.loop-value.value-index (members low old) (members low c.set_bit.new.words) c.loop-value-test.true inv.so_far
          (members-set low old c.set_bit.new.words (members low old) refl value c.offset-place.result at inside written);
    }
