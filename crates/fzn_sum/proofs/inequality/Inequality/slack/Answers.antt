use Rattle.std.proofs.Common.{◌≡◌, rules, arith, subst, ℤ, ◌+ℤ◌, ◌-ℤ◌, ◌≤ℤ◌, w64, FitsSigned}
use Rattle.std.proofs.lemmas.Int.{ints, to_z-of_z}
use Rattle.fzn_builtin_rules.specs.Linear.{least_sum}
use Rattle.fzn_propagator.specs.Inference.{IsTight}
use Rattle.fzn_sum.proofs.EndLemmas.{tight_by_widest}
use Rattle.fzn_sum.proofs.inequality.Inequality.slack.Goals as goal

pub returns-then-from-slack-clause-none : goal.returns-then-from-slack-clause-none
returns-then-from-slack-clause-none c = λ fit.
    let sum = c.args.self.now in
    let sets = sum.trail.now.sets in
    let are = sum.are_ends in
    let bounded = sum.bounded in
    let least_is = are.least_is in
    let least_bounded = are.least_bounded in
    let fits : FitsSigned w64 sum.ends.widest = search rules in
    let covers : sum.ends.widest ≤ℤ (sum.bound -ℤ sum.ends.least) = let t = c.if-from-slack.true in let f = c.from.ensures in first_of (omega (arith, ints), grind (arith, ints), grind (arith, ints, to_z-of_z)) in
    let total : least_sum sets sum.places.now +ℤ (sum.bound -ℤ sum.ends.least) ≡ sum.bound = omega (arith, ints) in
    subst (λ (b : ℤ). IsTight c.args.self.now.trail.now.sets c.args.self.now.places.now b) total (tight_by_widest sets sum.places.now sum.ends (sum.bound -ℤ sum.ends.least) are covers)
