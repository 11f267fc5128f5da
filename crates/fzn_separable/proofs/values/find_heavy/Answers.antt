use Rattle.std.proofs.Common.{arith, ◌<◌, length}
use Rattle.std.proofs.lemmas.Bool.{MatchBool-at_true}
use Rattle.fzn_meaning.specs.declared.constraint.Constraint.TheVariants as constraint
use Rattle.fzn_terms.specs.Denied.{IsDenied}
use Rattle.fzn_separable.proofs.RowLemmas.{heavy_out}
use Rattle.fzn_separable.proofs.values.find_heavy.Goals as goal

pub returns-in_err-hand_over : goal.returns-in_err-hand_over
returns-in_err-hand_over c =
    let trail = c.args.pass.now.trail.now in
    let row = c.args.pass.now.row.now in
    let one_each = c.requires.one_each in
    let below = c.requires.inside in
    let inside : c.args.k < length c.args.pass.now.row.now.parts = omega arith in
    let forced = MatchBool-at_true _ (IsDenied c.args.pass.now.trail.now.sets c.args.claim) c.if-branch.true c.in_ok-force.ensures in
    record {
      found = c.hand_over.ensures.found trail (constraint.Row row)
          (heavy_out trail row c.args.pass.now.ready c.args.part.now c.args.claim _ c.force.new.clause forced c.args.k c.args.levels.now c.args.weight _ inside c.requires.at c.requires.own c.requires.one_each c.requires.over c.requires.heavy c.in_ok-explain_levels.ensures)
          c.requires.before;
    }

pub returns-in_ok-hand_over : goal.returns-in_ok-hand_over
returns-in_ok-hand_over c =
    let trail = c.args.pass.now.trail.now in
    let row = c.args.pass.now.row.now in
    let one_each = c.requires.one_each in
    let below = c.requires.inside in
    let inside : c.args.k < length c.args.pass.now.row.now.parts = omega arith in
    let forced = MatchBool-at_true _ (IsDenied c.args.pass.now.trail.now.sets c.args.claim) c.if-branch.true c.in_ok-force.ensures in
    record {
      found = c.hand_over.ensures.found trail (constraint.Row row)
          (heavy_out trail row c.args.pass.now.ready c.args.part.now c.args.claim _ c.force.new.clause forced c.args.k c.args.levels.now c.args.weight _ inside c.requires.at c.requires.own c.requires.one_each c.requires.over c.requires.heavy c.in_ok-explain_levels.ensures)
          c.requires.before;
    }
