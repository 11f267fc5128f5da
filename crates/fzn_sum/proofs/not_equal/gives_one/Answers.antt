use Rattle.std.proofs.Common.{rules, ◌≡◌, ◌≢◌, arith, refl, pos, w64, FitsSigned}
use Rattle.std.proofs.lemmas.Int.{ints}
use Rattle.fzn_sum.proofs.PinLemmas.{one_of_zero, one_of_same, same_of_one}
use Rattle.fzn_sum.proofs.not_equal.gives_one.Goals as goal

pub returns-then-place-eq0 : goal.returns-then-place-eq0
returns-then-place-eq0 c =
    let fits : FitsSigned w64 c.args.place.coefficient = search rules in
    let zero : c.args.place.coefficient ≡ pos 0 = omega (arith, ints) in
    let one = one_of_zero c.args.trail.now.sets c.args.place zero in
    (λ _. one, λ _. refl)

pub returns : goal.returns
returns c =
    let fits : FitsSigned w64 c.args.place.coefficient = search rules in
    let some : c.args.place.coefficient ≢ pos 0 = omega (arith, ints) in
    let sets = c.args.trail.now.sets in (
      λ told. one_of_same sets c.args.place (c.is_fixed.ensures.0 told),
      λ one. c.is_fixed.ensures.1 (same_of_one sets c.args.place some one),
    )
