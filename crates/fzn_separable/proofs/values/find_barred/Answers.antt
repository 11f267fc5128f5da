use Rattle.std.proofs.lemmas.Bool.{MatchBool-at_true}
use Rattle.fzn_meaning.specs.declared.constraint.Constraint.TheVariants as constraint
use Rattle.fzn_terms.specs.Denied.{IsDenied}
use Rattle.fzn_separable.proofs.RowLemmas.{barred_out}
use Rattle.fzn_separable.proofs.values.find_barred.Goals as goal

pub returns-in_err-hand_over : goal.returns-in_err-hand_over
returns-in_err-hand_over c =
    let trail = c.args.pass.now.trail.now in
    let row = c.args.pass.now.row.now in
    let forced = MatchBool-at_true _ (IsDenied c.args.pass.now.trail.now.sets c.args.claim) c.if-branch.true c.in_ok-force.ensures in
    record { found = c.hand_over.ensures.found trail (constraint.Row row) (barred_out trail row c.args.pass.now.ready c.args.part.now c.args.claim _ c.force.new.clause forced c.args.k c.requires.inside c.requires.at c.requires.barred) c.requires.before }

pub returns-in_ok-hand_over : goal.returns-in_ok-hand_over
returns-in_ok-hand_over c =
    let trail = c.args.pass.now.trail.now in
    let row = c.args.pass.now.row.now in
    let forced = MatchBool-at_true _ (IsDenied c.args.pass.now.trail.now.sets c.args.claim) c.if-branch.true c.in_ok-force.ensures in
    record { found = c.hand_over.ensures.found trail (constraint.Row row) (barred_out trail row c.args.pass.now.ready c.args.part.now c.args.claim _ c.force.new.clause forced c.args.k c.requires.inside c.requires.at c.requires.barred) c.requires.before }
