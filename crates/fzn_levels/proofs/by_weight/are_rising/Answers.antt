use mir.Syntax.{w128}
use Rattle.std.proofs.Common.{rules, arith, ◌+◌, ◌<◌, ◌∙◌, sym, subst, length, get_or, ◌≤ℤ◌, FitsSigned, to_z}
use Rattle.std.proofs.lemmas.Int.{ints, to_z-of_z}
use Rattle.fzn_levels.proofs.ByWeightLemmas.{AreUpTo, Weighs, up_to_more, rising_more, inside_more}
use Rattle.fzn_levels.proofs.by_weight.are_rising.Goals as goal

pub loop-i-preserved : goal.loop-i-preserved
loop-i-preserved c =
    let part = c.args.part.now in
    let listed = c.args.listed.now in
    let order = c.args.order.now in
    let i = c.loop-i.i-index in
    let weight = c.in-Some.weight in
    let fits : FitsSigned w128 c.in-Some.weight = search rules in
    let here : Weighs c.args.part.now c.args.listed.now (get_or c.args.order.now c.loop-i.i-index 0) c.in-Some.weight = sym c.entry_weight.ensures.value ∙ c.in-Some.is in
    let last = to_z w128 c.loop-i.last-bits in
    let more : to_z w128 c.loop-i.last-bits ≤ℤ c.in-Some.weight = omega (arith, ints) in
    let before = c.loop-i.invariant in
    let below : get_or c.args.order.now c.loop-i.i-index 0 < length c.args.listed.now.weights = omega (arith, c.len.ensures) in
    record {
      rising = rising_more part listed order i last weight here before.rising before.up_to more;
      up_to = subst (AreUpTo part listed order (i + 1)) (sym (to_z-of_z w128 weight fits)) (up_to_more part listed order i last weight here before.up_to more);
      inside = inside_more order i (length listed.weights) c.loop-i-test.true below before.inside;
    }
