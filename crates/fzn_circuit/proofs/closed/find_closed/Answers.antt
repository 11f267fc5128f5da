use Rattle.std.proofs.Common.{rules, ◌<◌, ℤ, List, length, arith, sym, subst}
use Rattle.fzn_domain.specs.Ascending.{IsAscending}
use Rattle.fzn_meaning.specs.declared.constraint.Constraint.TheVariants.{Circuit}
use Rattle.fzn_rules.specs.declared.rule.Rule.TheVariants.{Cut}
use Rattle.fzn_circuit.specs.Passes.{IsJustifiedByCircuit}
use Rattle.fzn_circuit.proofs.ClosedLemmas.{closed_inferred}
use Rattle.fzn_circuit.proofs.closed.find_closed.Goals as goal

pub returns : goal.returns
returns c =
    let trail = c.args.pass.now.trail.now in
    let xs = c.args.pass.now.successors.now in
    let list = c.as_slice-list.result.now in
    let past = c.loop-place-test.false in
    let some : 0 < length c.as_slice-list.result.now = search rules in
    let fewer : length c.as_slice-list.result.now < length c.args.pass.now.successors.now = omega arith in
    let rising = subst IsAscending (sym c.as_slice-list.ensures) (rw c.in-Some.is at c.in_ok-places.ensures) in
    c.hand_over.ensures.found trail (Circuit xs)
    (subst (λ (places : List ℤ). IsJustifiedByCircuit c.args.pass.now (Cut places) c.loop-place.clause) c.as_slice-list.ensures
    (closed_inferred trail xs list c.loop-place.clause some fewer rising (λ k below. c.loop-place.invariant.indices k (omega arith)) c.loop-place.invariant.still
    (λ sets left k below. c.loop-place.invariant.says sets left k (omega arith))))
    c.requires.before
