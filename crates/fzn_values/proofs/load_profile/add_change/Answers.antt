use Rattle.std.proofs.Common.{◌<◌, length, set, sym, subst, arith}
use Rattle.std.proofs.lemmas.Int.{to_z-of_z}
use Rattle.fzn_domain.specs.Ascending.{IsPlaceOf}
use Rattle.fzn_values.specs.LoadProfile.{IsChangedFrom, GrowBy}
use Rattle.fzn_values.proofs.LoadProfileLemmas.{IsChangedFrom-set, GrowBy-set, changed_is}
use Rattle.fzn_values.proofs.load_profile.add_change.Goals as goal
use mir.Syntax.{w64}

pub returns-then-place-clause-changed : goal.returns-then-place-clause-changed
returns-then-place-clause-changed g c =
    let at : c.place_of-place.result < length c.args.changes.now = omega arith in
    subst (λ x. IsChangedFrom c.args.time c.args.change c.args.times.now c.args.changes.now (set c.args.changes.now c.place_of-place.result x)) (sym (changed_is c.args.changes.now c.place_of-place.result c.args.change at c.requires.room c.requires.small))
    (IsChangedFrom-set c.args.times.now c.args.changes.now c.args.time c.args.change c.place_of-place.result (omega arith) at (subst (λ t. IsPlaceOf c.args.times.now t c.place_of-place.result) (to_z-of_z w64 c.args.time c.ranges.time) c.place_of-place.ensures))

pub returns-then-place-clause-bound : goal.returns-then-place-clause-bound
returns-then-place-clause-bound g c =
    let at : c.place_of-place.result < length c.args.changes.now = omega arith in
    subst (λ x. GrowBy 9223372036854775808 c.args.changes.now (set c.args.changes.now c.place_of-place.result x)) (sym (changed_is c.args.changes.now c.place_of-place.result c.args.change at c.requires.room c.requires.small))
    (GrowBy-set c.args.changes.now c.place_of-place.result 9223372036854775808 c.args.change at c.requires.small)
