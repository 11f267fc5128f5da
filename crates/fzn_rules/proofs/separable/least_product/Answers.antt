use Rattle.std.proofs.Common.{rules, arith, ◌∙◌, pos, ◌≤ℤ◌, ◌<ℤ◌, FitsSigned, w64}
use Rattle.std.proofs.lemmas.Int.{ints, to_z-of_z}
use mir.Syntax.{w128}
use Rattle.fzn_rules.proofs.LeastLemmas.{least-down, least-up}
use Rattle.fzn_rules.proofs.separable.least_product.Goals as goal

pub returns-then-coefficient-lt0-clause-least : goal.returns-then-coefficient-lt0-clause-least
returns-then-coefficient-lt0-clause-least c =
    let sign : c.args.coefficient <ℤ pos 0 = omega (arith, ints) in
    let coefficient : FitsSigned w64 c.args.coefficient = c.ranges.coefficient in
    let value : FitsSigned w64 c.max.result = search rules in
    let fits : FitsSigned w128 c.product.result = search rules in
    let is = simp to_z-of_z at c.product.ensures.value in
    least-down c.args.set.now c.args.coefficient c.max.result _ sign c.max.ensures.member c.max.ensures.last (to_z-of_z w128 c.product.result fits ∙ is)

pub returns-else-coefficient-lt0-clause-least : goal.returns-else-coefficient-lt0-clause-least
returns-else-coefficient-lt0-clause-least c =
    let sign : pos 0 ≤ℤ c.args.coefficient = omega (arith, ints) in
    let coefficient : FitsSigned w64 c.args.coefficient = c.ranges.coefficient in
    let value : FitsSigned w64 c.min.result = search rules in
    let result = c.product-else-coefficient-lt0.result in
    let fits : FitsSigned w128 result = search rules in
    let is = simp to_z-of_z at c.product-else-coefficient-lt0.ensures.value in
    least-up c.args.set.now c.args.coefficient c.min.result _ sign c.min.ensures.member c.min.ensures.first (to_z-of_z w128 result fits ∙ is)
