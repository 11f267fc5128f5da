use Rattle.std.proofs.Common.{◌≡◌, ◌<◌, ◌≤◌, FitsSigned, w64, to_z-of_z, length, get_or, sym, ap, ◌∙◌, subst, arith, rules}
use Rattle.std.specs.FinSet as set
use Rattle.fzn_numbers.specs.Ascending.{IsAscending, IsNextFrom}
use Rattle.fzn_numbers.proofs.AscendingLemmas.{next_there, no_next, place_at}
use Rattle.fzn_numbers.proofs.value_list.ValueList.next_from.Goals as goal

pub returns-then-place-len-clause-found : goal.returns-then-place-len-clause-found
returns-then-place-len-clause-found c =
    let xs = c.deref.result.now in
    let is = ap set.from_list c.deref.ensures.value ∙ c.self.view_is in
    let up : IsAscending xs = subst IsAscending (sym c.deref.ensures.value) c.self.invariant in
    let within : c.place_of-place.result < length xs = omega arith in
    let read : c.index.result.now ≡ get_or xs c.place_of-place.result c.index.result.now = cc in
    let fits : FitsSigned w64 c.index.result.now = search rules in
    let place = place_at xs c.args.bound _ c.ranges.bound c.place_of-place.ensures in
    subst (IsNextFrom c.args.self.now c.args.bound) (sym (to_z-of_z fits)) (next_there xs up c.args.bound _ place c.args.self.now is _ within read)

pub returns-else-place-len-clause-none : goal.returns-else-place-len-clause-none
returns-else-place-len-clause-none c =
    let xs = c.deref.result.now in
    let is = ap set.from_list c.deref.ensures.value ∙ c.self.view_is in
    let up : IsAscending xs = subst IsAscending (sym c.deref.ensures.value) c.self.invariant in
    let past : length xs ≤ c.place_of-place.result = omega arith in
    let place = place_at xs c.args.bound _ c.ranges.bound c.place_of-place.ensures in
    no_next xs up c.args.bound _ place c.args.self.now is past
