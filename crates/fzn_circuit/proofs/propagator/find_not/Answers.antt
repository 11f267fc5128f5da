use Rattle.std.proofs.lemmas.Bool.{MatchBool-at_true}
use Rattle.fzn_meaning.specs.declared.constraint.Constraint.TheVariants.{Circuit}
use Rattle.fzn_rules.specs.declared.rule.Rule.TheVariants.{Rows}
use Rattle.fzn_terms.specs.Denied.{IsDenied}
use Rattle.fzn_propagator.proofs.CallerLemmas.{justified_where}
use Rattle.fzn_circuit.proofs.propagator.find_not.Goals as goal

pub returns-clause-found : goal.returns-clause-found
returns-clause-found c =
    let trail = c.args.pass.now.trail.now in
    let circuit = Circuit c.args.pass.now.successors.now in
    let forced = MatchBool-at_true _ (IsDenied c.args.pass.now.trail.now.sets c.args.claim) c.if-not-branch.false c.in_ok-force.ensures in
    c.hand_over.ensures.found trail circuit (justified_where trail circuit Rows c.force.new.clause forced.forcing (λ sets left. c.requires.refuted sets (forced.says sets left))) c.requires.before
