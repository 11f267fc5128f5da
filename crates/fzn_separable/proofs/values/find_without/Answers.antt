use mir.Syntax.{w128}
use Rattle.std.proofs.Common.{◌∙◌, sym, subst, ℤ, ◌≤ℤ◌}
use Rattle.std.proofs.lemmas.Int.{to_z-of_z}
use Rattle.fzn_separable.proofs.TotalLemmas.{none_lighter-below}
use Rattle.fzn_separable.proofs.values.find_without.Goals as goal

pub find_heavy-requires-clause-one_each : goal.find_heavy-requires-clause-one_each
find_heavy-requires-clause-one_each c = (c.are_enough.ensures c.if-are_enough.true).one_each ∙ c.requires.leasts.one_each

pub find_heavy-requires-clause-present : goal.find_heavy-requires-clause-present
find_heavy-requires-clause-present c =
    none_lighter-below c.args.pass.now.trail.now.sets c.args.pass.now.row.now.parts c.args.leasts.now c.requires.leasts c.args.k c.as_slice-levels.result.now (c.are_enough.ensures c.if-are_enough.true).below

pub find_heavy-requires-clause-over : goal.find_heavy-requires-clause-over
find_heavy-requires-clause-over c = (c.are_enough.ensures c.if-are_enough.true).over

pub find_heavy-requires-clause-heavy : goal.find_heavy-requires-clause-heavy
find_heavy-requires-clause-heavy c = λ sets all weight at. subst (λ (x : ℤ). x ≤ℤ weight) (sym (to_z-of_z w128 c.args.weight c.ranges.weight)) (c.requires.heavy sets all weight at)
