use Rattle.std.proofs.Common.{◌≡◌, ap, ◌∙◌, ℤ, pos, ◌+ℤ◌, ◌-ℤ◌, ◌≤ℤ◌, arith, rules}
use Rattle.std.proofs.lemmas.Int.{ints}
use Rattle.fzn_rules.proofs.HallTest.{excess_test}
use Rattle.fzn_rules.proofs.hall.has_excess.Goals as goal
use mir.Syntax.{w64, w128}
use mir.Val.{to_z, of_z}

pub returns : goal.returns
returns c =
    let low : ℤ = c.args.low.now in
    let high : ℤ = c.args.high.now in
    let in_order : c.args.low.now ≤ℤ c.args.high.now = search rules in
    let numbers : to_z w128 (of_z w128 (to_z w128 (of_z w128 (to_z w128 (of_z w128 (to_z w64 (of_z w64 c.args.high.now))) -ℤ to_z w128 (of_z w128 (to_z w64 (of_z w64 c.args.low.now))))) +ℤ pos 1)) ≡ (c.args.high.now -ℤ c.args.low.now) +ℤ pos 1 = omega (arith, ints) in
    let count : to_z w128 c.count_within.result ≡ pos c.count_within.result = omega (arith, ints) in
    excess_test c.args.sets.now.present c.args.low.now c.args.high.now c.args.places.now _ _ in_order numbers (count ∙ ap pos c.count_within.ensures)
