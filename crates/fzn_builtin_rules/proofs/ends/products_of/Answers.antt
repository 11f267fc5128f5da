use Rattle.std.proofs.Common.{rules, arith, pos, ◌<ℤ◌, ◌≤ℤ◌, w64, FitsSigned}
use Rattle.std.proofs.lemmas.Int.{ints}
use Rattle.fzn_builtin_rules.proofs.EndLemmas.{product_room, products_up, products_down}
use Rattle.fzn_builtin_rules.proofs.ends.products_of.Goals as goal

pub overflow_mul-high : goal.overflow_mul-high
overflow_mul-high c = product_room c.args.place.coefficient c.greatest_value.result c.requires.place.1 c.greatest_value.ensures.in_limits

pub returns-then-place-lt0 : goal.returns-then-place-lt0
returns-then-place-lt0 c =
    let fits : FitsSigned w64 c.args.place.coefficient = search rules in
    let sign : c.args.place.coefficient <ℤ pos 0 = omega (arith, ints) in
    products_down c.args.sets.now.present c.args.place _ _ sign c.requires.place.1 c.least_value.ensures.in_limits c.greatest_value.ensures.in_limits c.least_value.ensures.value c.greatest_value.ensures.value

pub returns-else-place-lt0 : goal.returns-else-place-lt0
returns-else-place-lt0 c =
    let fits : FitsSigned w64 c.args.place.coefficient = search rules in
    let sign : pos 0 ≤ℤ c.args.place.coefficient = omega (arith, ints) in
    products_up c.args.sets.now.present c.args.place _ _ sign c.requires.place.1 c.least_value.ensures.in_limits c.greatest_value.ensures.in_limits c.least_value.ensures.value c.greatest_value.ensures.value
