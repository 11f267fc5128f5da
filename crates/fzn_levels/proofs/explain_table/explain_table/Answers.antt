use Rattle.std.proofs.Common.{arith, ◌≡◌, length, subst, ℕ}
use Rattle.fzn_terms.specs.Denied.{IsGrown}
use Rattle.fzn_levels.proofs.LevelLemmas.{AreBefore, row_said, each_none, each_more, rows_all}
use Rattle.fzn_levels.proofs.explain_table.explain_table.Goals as goal

pub loop-r-init : goal.loop-r-init
loop-r-init c = each_none c.args.pass.now.trail.now (row_said c.args.table.now c.args.level) c.args.clause.now c.requires.still

pub explain_row-requires-clause-still : goal.explain_row-requires-clause-still
explain_row-requires-clause-still c = c.loop-r.invariant.still

pub loop-r-preserved : goal.loop-r-preserved
loop-r-preserved c =
    each_more c.args.pass.now.trail.now (row_said c.args.table.now c.args.level) c.args.clause.now c.loop-r.r c.loop-r.clause c.explain_row.new.clause c.loop-r.invariant c.in_ok-explain_row.ensures

pub returns : goal.returns
returns c =
    let past = c.loop-r.auto.r-end in
    let end = c.loop-r-test.false in
    let len = c.len-r-end.ensures in
    let whole : c.loop-r.r ≡ length c.args.table.now.weights = omega arith in
    rows_all c.args.pass.now.trail.now c.args.table.now c.args.level c.args.clause.now c.loop-r.clause
    (subst (λ (n : ℕ). IsGrown c.args.pass.now.trail.now (AreBefore (row_said c.args.table.now c.args.level) n) c.args.clause.now c.loop-r.clause) whole c.loop-r.invariant)
