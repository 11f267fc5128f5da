use Rattle.std.proofs.Common.{arith, List, length, sym, subst, ◌<ℤ◌}
use Rattle.std.proofs.lemmas.Int.{ints, to_z-of_z}
use Rattle.fzn_builtin_rules.specs.Linear.{least_sum}
use Rattle.fzn_sum.specs.declared.at_most.PlaceFloor.{PlaceFloor}
use Rattle.fzn_sum.specs.Explained.{AreFloors}
use Rattle.fzn_sum.proofs.ClauseLemmas.{conflict}
use Rattle.fzn_sum.proofs.inequality.Inequality.conflict.Goals as goal

pub returns-clause-found : goal.returns-clause-found
returns-clause-found c =
    let sum = c.args.self.now in
    let trail = sum.trail.now in
    let places = sum.places.now in
    let are = sum.are_ends in
    let bounded = sum.bounded in
    let least_is = are.least_is in
    let least_bounded = are.least_bounded in
    let above : sum.bound <ℤ least_sum trail.sets places = let t = c.if-self.false in first_of (omega (arith, ints), grind (arith, ints), grind (arith, ints, to_z-of_z)) in
    let floors = subst (λ (fs : List PlaceFloor). AreFloors c.args.self.now.trail.now c.args.self.now.places.now (length c.args.self.now.places.now) fs) (sym c.as_slice.ensures) c.in_ok-floors.ensures in
    conflict trail places sum.bound c.in_ok-clause.clause above (c.in_ok-clause.ensures trail places sum.fit floors)
