use Rattle.std.proofs.Common.{rules, arith, pos, ◌<ℤ◌, ◌≤ℤ◌, w64, FitsSigned}
use Rattle.std.proofs.lemmas.Int.{ints}
use Rattle.fzn_builtin_rules.proofs.EndLemmas.{product_room, products_up, products_down}
use Rattle.fzn_sum.proofs.ends.given_by.Goals as goal

pub overflow_mul-one : goal.overflow_mul-one
overflow_mul-one c = let limits = c.values_of-low.ensures.in_limits in product_room c.args.place.coefficient _ c.requires.place.1 limits.0

pub overflow_mul-other : goal.overflow_mul-other
overflow_mul-other c = let limits = c.values_of-low.ensures.in_limits in product_room c.args.place.coefficient _ c.requires.place.1 limits.1

pub returns-then-place-lt0 : goal.returns-then-place-lt0
returns-then-place-lt0 c =
    let fits : FitsSigned w64 c.args.place.coefficient = search rules in
    let sign : c.args.place.coefficient <ℤ pos 0 = omega (arith, ints) in
    let limits = c.values_of-low.ensures.in_limits in
    products_down c.args.trail.now.sets c.args.place _ _ sign c.requires.place.1 limits.0 limits.1 c.values_of-low.ensures.least c.values_of-low.ensures.greatest

pub returns-else-place-lt0 : goal.returns-else-place-lt0
returns-else-place-lt0 c =
    let fits : FitsSigned w64 c.args.place.coefficient = search rules in
    let sign : pos 0 ≤ℤ c.args.place.coefficient = omega (arith, ints) in
    let limits = c.values_of-low.ensures.in_limits in
    products_up c.args.trail.now.sets c.args.place _ _ sign c.requires.place.1 limits.0 limits.1 c.values_of-low.ensures.least c.values_of-low.ensures.greatest
