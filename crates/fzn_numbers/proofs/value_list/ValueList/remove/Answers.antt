use Rattle.std.proofs.Common.{ℤ, List, w64, to_z, of_z, ap, ◌∙◌, subst, arith}
use Rattle.std.specs.FinSet as set
use Rattle.fzn_numbers.specs.Ascending.{IsPlaceOf}
use Rattle.fzn_numbers.proofs.AscendingLemmas.{from_list-remove, place_in_list, has_there, place_at}
use Rattle.fzn_numbers.proofs.value_list.ValueList.remove.Goals as goal

pub remove-requires : goal.remove-requires
remove-requires c =
    let xs = c.self.inside.values.items in
    let place = place_at xs c.args.value _ c.ranges.value (subst (λ (ys : List ℤ). IsPlaceOf ys (to_z w64 (of_z w64 c.args.value)) c.place_of-place.result) c.deref.ensures.value c.place_of-place.ensures) in
    let within = place_in_list xs c.self.invariant c.args.value _ place c.args.self.now c.self.view_is c.requires in
    omega arith

pub returns : goal.returns
returns c =
    let xs = c.self.inside.values.items in
    let place = place_at xs c.args.value _ c.ranges.value (subst (λ (ys : List ℤ). IsPlaceOf ys (to_z w64 (of_z w64 c.args.value)) c.place_of-place.result) c.deref.ensures.value c.place_of-place.ensures) in
    let within = place_in_list xs c.self.invariant c.args.value _ place c.args.self.now c.self.view_is c.requires in
    let same = has_there xs c.self.invariant c.args.value _ place c.args.self.now c.self.view_is c.remove.result within c.remove.ensures.value c.requires in
    ap set.from_list c.remove.ensures.items
    ∙ from_list-remove xs c.self.invariant c.place_of-place.result c.remove.result within c.remove.ensures.value
    ∙ (λ i. set.remove (c.self.view_is i) (same i))
