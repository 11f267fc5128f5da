use Rattle.std.proofs.Common.{arith, ◌≡◌, length, subst, ℕ}
use Rattle.fzn_terms.specs.Denied.{IsGrown}
use Rattle.fzn_levels.proofs.LevelLemmas.{AreBefore, entry_said, each_none, each_more, entries_all}
use Rattle.fzn_levels.proofs.explain.explain_entries.Goals as goal

pub loop-i-init : goal.loop-i-init
loop-i-init c = each_none c.args.pass.now.trail.now (entry_said c.args.part.now c.args.listed.now c.args.level) c.args.clause.now c.requires.still

pub explain_entry-requires-clause-ends : goal.explain_entry-requires-clause-ends
explain_entry-requires-clause-ends c = λ sets left. c.requires.ends sets (c.loop-i.invariant.keeps sets left)

pub explain_entry-requires-clause-still : goal.explain_entry-requires-clause-still
explain_entry-requires-clause-still c = c.loop-i.invariant.still

pub loop-i-preserved : goal.loop-i-preserved
loop-i-preserved c =
    each_more c.args.pass.now.trail.now (entry_said c.args.part.now c.args.listed.now c.args.level) c.args.clause.now c.loop-i.i c.loop-i.clause c.explain_entry.new.clause c.loop-i.invariant c.in_ok-explain_entry.ensures

pub returns : goal.returns
returns c =
    let past = c.loop-i.auto.i-end in
    let end = c.loop-i-test.false in
    let len = c.len-i-end.ensures in
    let whole : c.loop-i.i ≡ length c.args.listed.now.weights = omega arith in
    entries_all c.args.pass.now.trail.now c.args.part.now c.args.listed.now c.args.level c.args.clause.now c.loop-i.clause c.requires.of
    (subst (λ (n : ℕ). IsGrown c.args.pass.now.trail.now (AreBefore (entry_said c.args.part.now c.args.listed.now c.args.level) n) c.args.clause.now c.loop-i.clause) whole c.loop-i.invariant)
