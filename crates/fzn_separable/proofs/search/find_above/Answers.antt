use Rattle.std.proofs.Common.{sym, subst, ℕ}
use Rattle.fzn_meaning.specs.declared.constraint.Constraint.TheVariants as constraint
use Rattle.fzn_levels.specs.Levels.{AreNoLighterBut, SaysAllNoLighter}
use Rattle.fzn_separable.proofs.RowLemmas.{above_justified}
use Rattle.fzn_separable.proofs.search.find_above.Goals as goal

pub explain_levels-requires-clause-present : goal.explain_levels-requires-clause-present
explain_levels-requires-clause-present c = subst (λ (n : ℕ). AreNoLighterBut n c.args.pass.now.row.now.parts c.args.levels.now c.args.pass.now.trail.now.sets) (sym c.len.ensures) c.requires.present

pub returns-clause-found : goal.returns-clause-found
returns-clause-found c =
    let trail = c.args.pass.now.trail.now in
    let row = c.args.pass.now.row.now in
    c.hand_over.ensures.found trail (constraint.Row row)
    (above_justified trail row c.args.pass.now.ready c.args.levels.now c.new-clause.result c.explain_levels.new.clause c.requires.one_each c.requires.over
    (subst (λ (n : ℕ). SaysAllNoLighter c.args.pass.now.trail.now n c.args.pass.now.row.now.parts c.args.levels.now c.new-clause.result c.explain_levels.new.clause) c.len.ensures c.in_ok-explain_levels.ensures))
    c.requires.before
