use mir.Syntax.{w128}
use Rattle.std.proofs.lemmas.Int.{to_z-of_z}
use Rattle.std.proofs.Common.{rules, arith, FitsSigned, w64, ◌≡◌, ◌≤ℤ◌, ◌∙◌, to_z, of_z, ℤ, int_lt, false}
use Rattle.std.proofs.lemmas.Int.{ints}
use Rattle.fzn_separable.proofs.RowLemmas.{row_met}
use Rattle.fzn_levels.specs.Levels.{sum_of}
use Rattle.fzn_separable.proofs.search.find_by_leasts.Goals as goal

pub sum_of-total-requires-clause-bounded : goal.sum_of-total-requires-clause-bounded
sum_of-total-requires-clause-bounded c = c.requires.leasts.bounded

no_over : (a b bound total : ℤ) → a ≡ bound → b ≡ total → int_lt a b ≡ false → total ≤ℤ bound
no_over a b bound total p q h = grind (arith, ints)

pub returns-clause-none : goal.returns-clause-none
returns-clause-none c = λ nothing.
    let bound = c.args.pass.now.ready.bound in
    let is = c.sum_of-total.ensures in
    let fits : FitsSigned w128 c.sum_of-total.result = search rules in
    let cast : to_z w128 (of_z w128 (to_z w64 (of_z w64 c.args.pass.now.row.now.bound))) ≡ c.args.pass.now.row.now.bound = omega (arith, ints, bound) in
    row_met c.args.pass.now.trail.now c.args.pass.now.row.now c.args.pass.now.ready c.args.leasts.now c.requires.leasts
    (no_over _ _ c.args.pass.now.row.now.bound (sum_of c.args.leasts.now) cast (to_z-of_z w128 c.sum_of-total.result fits ∙ is) c.if-pass-total.false)
