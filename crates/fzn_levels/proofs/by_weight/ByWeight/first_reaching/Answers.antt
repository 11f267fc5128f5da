use mir.Syntax.{w128}
use Rattle.std.proofs.Common.{arith, ◌+◌, ◌-◌, ◌/◌, List, ℕ, subst, get_or, ℤ, ◌≤ℤ◌, FitsSigned, to_z, of_z}
use Rattle.std.proofs.lemmas.Int.{to_z-of_z}
use Rattle.fzn_levels.proofs.ByWeightLemmas.{Weighs, heavy_from}
use Rattle.fzn_levels.proofs.by_weight.ByWeight.first_reaching.Goals as goal

pub loop-low-preserved-then-reaches : goal.loop-low-preserved-then-reaches
loop-low-preserved-then-reaches c =
    let middle = c.loop-low.low + (c.loop-low.high - c.loop-low.low) / 2 in
    let at = c.reaches.ensures c.if-reaches.true in
    record {
      within = omega arith;
      heavy = λ is k w le below weighs.
          heavy_from c.args.part.now c.args.listed.now c.args.self.now middle (to_z w128 (of_z w128 c.args.level)) is at.0
          (subst (λ (xs : List ℕ). Weighs c.args.part.now c.args.listed.now (get_or xs middle 0) at.0) c.as_slice-order.ensures.value at.1) at.2 k w le below weighs;
    }

pub returns-clause-heavy : goal.returns-clause-heavy
returns-clause-heavy c = λ is k w le below weighs.
    let fits : FitsSigned w128 c.args.level = c.ranges.level in
    subst (λ (x : ℤ). x ≤ℤ w) (to_z-of_z w128 c.args.level fits) (c.loop-low.invariant.heavy is k w le below weighs)
