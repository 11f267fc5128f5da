use Rattle.std.proofs.Common.{◌≡◌, ℤ, List, insert, false, w64, to_z, of_z, to_z-of_z, sym, ap, ◌∙◌, subst}
use Rattle.std.specs.FinSet as set
use Rattle.fzn_numbers.specs.IntSet.{contains}
use Rattle.fzn_numbers.specs.Ascending.{IsAscending, IsPlaceOf}
use Rattle.fzn_numbers.proofs.AscendingLemmas.{from_list-insert, IsAscending-insert, place_at}
use Rattle.fzn_numbers.proofs.value_list.ValueList.insert.Goals as goal

pub invariant_of-self-2 : goal.invariant_of-self-2
invariant_of-self-2 c =
    let xs = c.self.inside.values.items in
    let place : IsPlaceOf xs c.args.value c.place_of-place.result = place_at xs c.args.value _ c.ranges.value (subst (λ (ys : List ℤ). IsPlaceOf ys (to_z w64 (of_z w64 c.args.value)) c.place_of-place.result) c.deref.ensures.value c.place_of-place.ensures) in
    let absent : contains (set.from_list xs) c.args.value ≡ false = ap (λ s. contains s c.args.value) c.self.view_is ∙ c.requires in
    subst IsAscending (sym (c.in_ok-insert.ensures.items ∙ ap (insert c.self.inside.values.items c.place_of-place.result) (to_z-of_z c.ranges.value))) (IsAscending-insert xs c.self.invariant c.place_of-place.result c.args.value place absent)

pub returns-clause-ok : goal.returns-clause-ok
returns-clause-ok c =
    ap set.from_list (c.in_ok-insert.ensures.items ∙ ap (insert c.self.inside.values.items c.place_of-place.result) (to_z-of_z c.ranges.value)) ∙ from_list-insert c.self.inside.values.items c.place_of-place.result c.args.value ∙ ap (λ s. set.insert s c.args.value) c.self.view_is
