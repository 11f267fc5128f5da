use Rattle.std.proofs.Common.{sym, subst}
use Rattle.fzn_linear.specs.declared.pass.Pass.{Pass}
use Rattle.fzn_linear.specs.Passes.{AddsFound}
use Rattle.fzn_linear.specs.Switched.{IsSwitchFixed}
use Rattle.fzn_linear.proofs.PassLemmas.{ok_then, side_refuted}
use Rattle.fzn_linear.proofs.RefuteLemmas.{cause_of_refutation}
use Rattle.fzn_linear.proofs.pass.Pass.hand_over.Goals as goal

pub hand_over-requires : goal.hand_over-requires
hand_over-requires c =
    cause_of_refutation c.in-Some.side c.args.clause
    (subst (λ (p : Pass). IsSwitchFixed p.trail.now.sets p.form.now.switch) (sym c.in-Some.ensures.some.0) c.requires.decided)
    (side_refuted c.in-Some.side c.args.self.now c.args.on c.in-Some.ensures.some c.args.clause c.requires.refutes)

pub returns-in-Some-clause-found : goal.returns-in-Some-clause-found
returns-in-Some-clause-found c = subst (λ (p : Pass). AddsFound p c.args.found.now c.hand_over.new.found) c.in-Some.ensures.some.0 c.hand_over.ensures.found

pub returns-in-Some-clause-none : goal.returns-in-Some-clause-none
returns-in-Some-clause-none c = ok_then c.hand_over.result c.hand_over.ensures.none (λ none empty switched. let same = none empty in cc)
