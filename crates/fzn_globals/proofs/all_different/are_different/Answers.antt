use Rattle.std.proofs.Common.{◌≢◌, List, ℤ, subst}
use Rattle.std.specs.List.{AllPairs}
use Rattle.fzn_globals.proofs.DifferentLemmas.{sorted_met}
use Rattle.fzn_globals.proofs.all_different.are_different.Goals as goal

pub returns : goal.returns
returns c = λ told. sorted_met c.args.pass.now.trail.now c.args.pass.now.places.now c.args.pass.now.fit c.in_ok-values.values.items c.sort.new.self.items c.in_ok-values.ensures c.sort.ensures.permutation
    (subst (λ (xs : List ℤ). AllPairs (λ x y. x ≢ y) xs) c.as_slice.ensures.value (c.are_rising.ensures told))
