use Rattle.std.proofs.Common.{rules, ◌≢◌, ℤ, get_or, arith, ap, sym, subst, ◌∙◌, pos}
use Rattle.std.proofs.lemmas.Int.{ints}
use Rattle.std.proofs.lemmas.Bool.{MatchBool-at_true}
use Rattle.fzn_domain.specs.declared.literal.Op.TheVariants.{Equal}
use Rattle.fzn_domain.proofs.DomainLemmas.{real}
use Rattle.fzn_values.specs.declared.term.Term.{Term}
use Rattle.fzn_values.specs.declared.term.Term.TheVariants.{Constant}
use Rattle.fzn_meaning.specs.declared.constraint.Constraint.TheVariants.{Circuit}
use Rattle.fzn_rules.specs.declared.rule.Rule.TheVariants.{Hall}
use Rattle.fzn_sets.specs.Terms.{IsFixedTo}
use Rattle.fzn_terms.specs.declared.claim.Claim.{Claim}
use Rattle.fzn_terms.specs.Denied.{that, IsEntailed, IsDenied, IsClaimExplained, IsClaimForced}
use Rattle.fzn_propagator.specs.Inference.{HasWritableHints}
use Rattle.fzn_propagator.proofs.CallerLemmas.{justified_where}
use Rattle.fzn_circuit.specs.Passes.{IsJustifiedByCircuit}
use Rattle.fzn_circuit.proofs.CircuitLemmas.{all_fixed, same_met}
use Rattle.fzn_circuit.proofs.SameLemmas.{hall_hints}
use Rattle.fzn_circuit.proofs.same.find_pair.Goals as goal

pub explain-requires-clause-present : goal.explain-requires-clause-present
explain-requires-clause-present c =
    let term : Term = get_or c.args.pass.now.successors.now c.args.i (Constant (pos 0)) in
    let fixed : IsFixedTo c.args.pass.now.trail.now.sets (get_or c.args.pass.now.successors.now c.args.i (Constant (pos 0))) c.least_of-value.result = search rules in
    subst (IsEntailed c.args.pass.now.trail.now.sets) (sym (c.equal-one.ensures.value ∙ ap (that term Equal) (real _ c.least_of-value.ensures.in_limits)))
    (all_fixed c.args.pass.now.trail.now.sets term c.least_of-value.result fixed)

pub hand_over-requires : goal.hand_over-requires
hand_over-requires c =
    record { hints = subst (λ (x : ℤ). HasWritableHints (Hall x x)) (sym (real _ c.least_of-value.ensures.in_limits)) (hall_hints c.least_of-value.result c.least_of-value.ensures.in_limits) }

pub force-requires-clause-below : goal.force-requires-clause-below
force-requires-clause-below c =
    let limits = c.least_of-value.ensures.in_limits in
    rw (c.equal-other.ensures.value ∙ ap (that (get_or c.args.pass.now.successors.now c.args.j (Constant (pos 0))) Equal) (real _ c.least_of-value.ensures.in_limits)) (omega (arith, ints, limits.1))

pub returns-clause-found : goal.returns-clause-found
returns-clause-found c =
    let trail = c.args.pass.now.trail.now in
    let xs = c.args.pass.now.successors.now in
    let value = c.least_of-value.result in
    let at : Term = Constant (pos 0) in
    let same = real _ c.least_of-value.ensures.in_limits in
    let one = subst (λ (claim : Claim). IsClaimExplained c.args.pass.now.trail.now claim c.in_ok-clause.clause c.explain.new.clause) (c.equal-one.ensures.value ∙ ap (that (get_or xs c.args.i (Constant (pos 0))) Equal) same) c.in_ok-explain.ensures in
    let forced = subst (λ (claim : Claim). IsClaimForced c.args.pass.now.trail.now claim c.explain.new.clause c.force.new.clause) (c.equal-other.ensures.value ∙ ap (that (get_or xs c.args.j (Constant (pos 0))) Equal) same) (MatchBool-at_true _ (IsDenied c.args.pass.now.trail.now.sets c.equal-other.result) c.if-not-branch.false c.in_ok-force.ensures) in
    let apart : c.args.i ≢ c.args.j = λ e. c.if-j-i.false (sym e) in
    c.hand_over.ensures.found trail (Circuit xs)
    (subst (λ (x : ℤ). IsJustifiedByCircuit c.args.pass.now (Hall x x) c.force.new.clause) (sym same)
    (justified_where trail (Circuit xs) (Hall value value) c.force.new.clause forced.forcing (λ sets left.
    same_met trail.declared c.force.new.clause sets left xs c.args.pass.now.terms.0 c.args.i c.args.j value at apart (omega arith) (omega arith) (one.says sets (forced.keeps sets left)) (forced.says sets left))))
    c.requires.before
