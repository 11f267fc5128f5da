use Rattle.std.proofs.Common.{◌≡◌, ◌<◌, ◌≤◌, FitsSigned, w64, length, get_or, sym, ap, ◌∙◌, subst, arith, rules}
use Rattle.std.specs.FinSet as set
use Rattle.std.proofs.lemmas.Bool.{le-ltb}
use Rattle.fzn_numbers.specs.Ascending.{IsAscending}
use Rattle.fzn_numbers.proofs.AscendingLemmas.{has_there, has_nowhere, member_of, place_at, same_bits}
use Rattle.fzn_numbers.proofs.value_list.ValueList.has.Goals as goal

pub returns-then-place-len : goal.returns-then-place-len
returns-then-place-len c =
    let xs = c.deref.result.now in
    let is = ap set.from_list c.deref.ensures.value ∙ c.self.view_is in
    let up : IsAscending xs = subst IsAscending (sym c.deref.ensures.value) c.self.invariant in
    let within : c.place_of-place.result < length xs = omega arith in
    let read : c.index.result.now ≡ get_or xs c.place_of-place.result c.index.result.now = cc in
    let fits : FitsSigned w64 c.index.result.now = search rules in
    let place = place_at xs c.args.value _ c.ranges.value c.place_of-place.ensures in
    same_bits _ _ _ fits c.ranges.value (member_of xs up c.args.value _ c.args.self.now is _ within read)
    (has_there xs up c.args.value _ place c.args.self.now is _ within read)

pub returns-else-place-len : goal.returns-else-place-len
returns-else-place-len c =
    let xs = c.deref.result.now in
    let is = ap set.from_list c.deref.ensures.value ∙ c.self.view_is in
    let up : IsAscending xs = subst IsAscending (sym c.deref.ensures.value) c.self.invariant in
    let past : length xs ≤ c.place_of-place.result = omega arith in
    let place = place_at xs c.args.value _ c.ranges.value c.place_of-place.ensures in
    le-ltb _ _ c.if-place-len.false ∙ sym (has_nowhere xs up c.args.value _ place c.args.self.now is past)
