use Rattle.std.proofs.Common.{arith, ◌≡◌, ◌≤◌, ◌+◌, length, subst, ℕ}
use Rattle.fzn_terms.specs.Denied.{IsGrown}
use Rattle.fzn_levels.proofs.LevelLemmas.{AreBefore, entry_said, each_none, each_more, each_skip, entries_between, entries_all}
use Rattle.fzn_levels.proofs.explain.explain_lighter.Goals as goal

pub loop-i-init : goal.loop-i-init
loop-i-init c =
    let trail = c.args.pass.now.trail.now in
    let said = entry_said c.args.part.now c.args.listed.now c.args.level in
    let len = c.len-end.ensures in
    let high = c.next_of-i.ensures.high in
    let within : c.next_of-i.result ≤ length c.args.listed.now.weights = omega arith in
    record {
      grown = each_skip trail said c.args.clause.now 0 c.next_of-i.result c.args.clause.now (each_none trail said c.args.clause.now c.requires.still)
          (entries_between c.args.part.now c.args.listed.now c.args.level c.args.light.now 0 c.next_of-i.result c.requires.light within (λ k inside start below. c.next_of-i.ensures.none k inside start (omega arith)));
      within = within;
    }

pub explain_entry-requires-clause-ends : goal.explain_entry-requires-clause-ends
explain_entry-requires-clause-ends c = λ sets left. c.requires.ends sets (c.loop-i.invariant.grown.keeps sets left)

pub explain_entry-requires-clause-still : goal.explain_entry-requires-clause-still
explain_entry-requires-clause-still c = c.loop-i.invariant.grown.still

pub loop-i-preserved : goal.loop-i-preserved
loop-i-preserved c =
    let trail = c.args.pass.now.trail.now in
    let said = entry_said c.args.part.now c.args.listed.now c.args.level in
    let len = c.len-end.ensures in
    let high = c.next_of-i-in-loop-i.ensures.high in
    let within : c.next_of-i-in-loop-i.result ≤ length c.args.listed.now.weights = omega arith in
    record {
      grown = each_skip trail said c.args.clause.now (c.loop-i.i + 1) c.next_of-i-in-loop-i.result c.explain_entry.new.clause
          (each_more trail said c.args.clause.now c.loop-i.i c.loop-i.clause c.explain_entry.new.clause c.loop-i.invariant.grown c.in_ok-explain_entry.ensures)
          (entries_between c.args.part.now c.args.listed.now c.args.level c.args.light.now (c.loop-i.i + 1) c.next_of-i-in-loop-i.result c.requires.light within (λ k inside start below. c.next_of-i-in-loop-i.ensures.none k inside start (omega arith)));
      within = within;
    }

pub returns : goal.returns
returns c =
    let end = c.loop-i-test.false in
    let within = c.loop-i.invariant.within in
    let len = c.len-end.ensures in
    let whole : c.loop-i.i ≡ length c.args.listed.now.weights = omega arith in
    entries_all c.args.pass.now.trail.now c.args.part.now c.args.listed.now c.args.level c.args.clause.now c.loop-i.clause c.requires.of
    (subst (λ (n : ℕ). IsGrown c.args.pass.now.trail.now (AreBefore (entry_said c.args.part.now c.args.listed.now c.args.level) n) c.args.clause.now c.loop-i.clause) whole c.loop-i.invariant.grown)
