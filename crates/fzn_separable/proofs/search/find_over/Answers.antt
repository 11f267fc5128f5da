use Rattle.std.proofs.Common.{◌∙◌, refl, length}
use Rattle.fzn_separable.proofs.TotalLemmas.{none_lighter, enough_for_all}
use Rattle.fzn_separable.proofs.search.find_over.Goals as goal

pub find_above-requires-clause-one_each : goal.find_above-requires-clause-one_each
find_above-requires-clause-one_each c = (c.are_enough.ensures c.if-are_enough.true).one_each ∙ c.requires.leasts.one_each

pub find_above-requires-clause-present : goal.find_above-requires-clause-present
find_above-requires-clause-present c =
    enough_for_all c.args.pass.now.trail.now.sets c.args.pass.now.row.now.parts c.args.leasts.now c.as_slice-levels.result.now c.args.pass.now.row.now.bound (length c.args.leasts.now) c.requires.leasts refl (c.are_enough.ensures c.if-are_enough.true)

pub find_above-requires-else-are_enough-clause-present : goal.find_above-requires-else-are_enough-clause-present
find_above-requires-else-are_enough-clause-present c =
    none_lighter c.args.pass.now.trail.now.sets c.args.pass.now.row.now.parts c.args.leasts.now c.requires.leasts (length c.args.pass.now.row.now.parts)
