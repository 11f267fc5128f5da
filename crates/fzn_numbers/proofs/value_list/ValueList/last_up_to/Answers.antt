use Rattle.std.proofs.Common.{◌≡◌, ◌-◌, ℤ, pos, ◌+ℤ◌, FitsSigned, w64, to_z-of_z, get_or, sym, ap, ◌∙◌, subst, arith, rules}
use Rattle.std.specs.FinSet as set
use Rattle.fzn_numbers.specs.Ascending.{IsAscending, IsPlaceOf, IsLastUpTo}
use Rattle.fzn_numbers.proofs.AscendingLemmas.{last_there, no_last, to_next}
use Rattle.fzn_numbers.proofs.value_list.ValueList.last_up_to.Goals as goal

pub returns-then-place-gt0-clause-found : goal.returns-then-place-gt0-clause-found
returns-then-place-gt0-clause-found c =
    let xs = c.deref.result.now in
    let is = ap set.from_list c.deref.ensures.value ∙ c.self.view_is in
    let up : IsAscending xs = subst IsAscending (sym c.deref.ensures.value) c.self.invariant in
    let place : IsPlaceOf xs (c.args.bound +ℤ pos 1) c.place_of-place.result = subst (λ (b : ℤ). IsPlaceOf xs b c.place_of-place.result) (to_next c.args.bound c.ranges.bound c.requires) c.place_of-place.ensures in
    let read : c.index.result.now ≡ get_or xs (c.place_of-place.result - 1) c.index.result.now = cc in
    let fits : FitsSigned w64 c.index.result.now = search rules in
    subst (IsLastUpTo c.args.self.now c.args.bound) (sym (to_z-of_z fits)) (last_there xs up c.args.bound _ place c.args.self.now is _ (omega arith) read)

pub returns-else-place-gt0-clause-none : goal.returns-else-place-gt0-clause-none
returns-else-place-gt0-clause-none c =
    let xs = c.deref.result.now in
    let is = ap set.from_list c.deref.ensures.value ∙ c.self.view_is in
    let up : IsAscending xs = subst IsAscending (sym c.deref.ensures.value) c.self.invariant in
    let place : IsPlaceOf xs (c.args.bound +ℤ pos 1) c.place_of-place.result = subst (λ (b : ℤ). IsPlaceOf xs b c.place_of-place.result) (to_next c.args.bound c.ranges.bound c.requires) c.place_of-place.ensures in
    no_last xs up c.args.bound _ place c.args.self.now is (omega arith)
