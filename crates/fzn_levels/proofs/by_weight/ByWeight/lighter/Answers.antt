use mir.Syntax.{w128}
use Rattle.std.proofs.Common.{take, List, ℕ, sym, subst, ℤ, ◌≤ℤ◌, Some, FitsSigned}
use Rattle.std.proofs.lemmas.Int.{to_z-of_z}
use Rattle.fzn_levels.specs.ByWeight.{HaveLighter}
use Rattle.fzn_levels.proofs.ByWeightLemmas.{lighter_before}
use Rattle.fzn_levels.proofs.by_weight.ByWeight.lighter.Goals as goal

pub returns : goal.returns
returns c =
    let part = c.args.part.now in
    let listed = c.args.listed.now in
    let end = c.first_reaching-end.result in
    let level : FitsSigned w128 c.args.level = c.ranges.level in
    subst (λ (xs : List ℕ). HaveLighter c.args.part.now c.args.listed.now (Some c.args.level) (take c.first_reaching-end.result xs)) (sym c.as_slice.ensures.value)
    (lighter_before part listed c.args.self.now c.args.level end c.requires.order c.first_reaching-end.ensures.within
    (λ k w le below weighs. subst (λ (x : ℤ). x ≤ℤ w) (to_z-of_z w128 c.args.level level) (c.first_reaching-end.ensures.heavy c.requires.order k w le below weighs)))
