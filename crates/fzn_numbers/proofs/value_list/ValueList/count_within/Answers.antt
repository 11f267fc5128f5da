use Rattle.std.proofs.Common.{ℤ, pos, ◌+ℤ◌, List, w64, to_z, of_z, sym, ap, ◌∙◌, subst}
use Rattle.fzn_numbers.specs.IntSet.{size, within}
use Rattle.fzn_numbers.specs.Ascending.{IsPlaceOf}
use Rattle.fzn_numbers.proofs.AscendingLemmas.{size-within_list, place_at, to_next}
use Rattle.fzn_numbers.proofs.value_list.ValueList.count_within.Goals as goal

pub returns : goal.returns
returns c =
    let xs = c.self.inside.values.items in
    let first = place_at xs c.args.low _ c.ranges.low (subst (λ (ys : List ℤ). IsPlaceOf ys (to_z w64 (of_z w64 c.args.low)) c.place_of-2.result) c.deref-2.ensures.value c.place_of-2.ensures) in
    let last : IsPlaceOf xs (c.args.high +ℤ pos 1) c.place_of.result = subst (λ (b : ℤ). IsPlaceOf xs b c.place_of.result) (to_next c.args.high c.ranges.high c.requires.below_greatest) (subst (λ (ys : List ℤ). IsPlaceOf ys (to_z w64 (of_z w64 (to_z w64 (of_z w64 c.args.high) +ℤ pos 1))) c.place_of.result) c.deref.ensures.value c.place_of.ensures) in
    sym (ap (λ s. size (within s c.args.low c.args.high)) (sym c.self.view_is) ∙ size-within_list xs c.self.invariant c.args.low c.args.high _ _ first last c.requires.ordered)
