use Rattle.std.proofs.Common.{rules, ◌≤ℤ◌, ap, sym, subst, subst₂, ◌∙◌, ℤ}
use Rattle.std.proofs.lemmas.Result.{IfOk-weaker}
use Rattle.fzn_domain.specs.declared.literal.Op.TheVariants.{AtMost, AtLeast}
use Rattle.fzn_domain.proofs.DomainLemmas.{real}
use Rattle.fzn_values.specs.declared.term.Term.{Term}
use Rattle.fzn_values.specs.declared.term.Term.TheVariants.{Variable}
use Rattle.fzn_rules.specs.Cut.{LeadsInto}
use Rattle.fzn_terms.specs.declared.claim.Claim.{Claim}
use Rattle.fzn_terms.specs.Denied.{that, IsEntailed, IsClaimExplained, IsGrown}
use Rattle.fzn_circuit.specs.Closed.{LeadsIntoBetween}
use Rattle.fzn_circuit.proofs.ClosedLemmas.{leads_into}
use Rattle.fzn_terms.proofs.OrderLemmas.{le_test}
use Rattle.fzn_circuit.proofs.closed.explain_within.Goals as goal

pub explain-requires-clause-present : goal.explain-requires-clause-present
explain-requires-clause-present c =
    let order : c.low_end-low.result ≤ℤ c.least_of.result = search rules in
    subst (IsEntailed c.args.pass.now.trail.now.sets) (sym (c.at_least.ensures ∙ ap (that (Variable c.in-Variable.var) AtLeast) (real _ c.low_end-low.ensures.limits)))
    (λ v may. le_test c.low_end-low.result c.least_of.result v order (c.least_of.ensures.first v may))

pub explain-requires-2-clause-present : goal.explain-requires-2-clause-present
explain-requires-2-clause-present c =
    let order : c.greatest_of.result ≤ℤ c.high_end-high.result = search rules in
    subst (IsEntailed c.args.pass.now.trail.now.sets) (sym (c.at_most.ensures ∙ ap (that (Variable c.in-Variable.var) AtMost) (real _ c.high_end-high.ensures.limits)))
    (λ v may. le_test v c.greatest_of.result c.high_end-high.result (c.greatest_of.ensures.last v may) order)

pub returns : goal.returns
returns c =
    let trail = c.args.pass.now.trail.now in
    let low = c.low_end-low.result in
    let high = c.high_end-high.result in
    let low_is = real _ c.low_end-low.ensures.limits in
    let high_is = real _ c.high_end-high.ensures.limits in
    let from = subst (λ (claim : Claim). IsClaimExplained c.args.pass.now.trail.now claim c.args.clause.now c.explain.new.clause) (c.at_least.ensures ∙ ap (that (Variable c.in-Variable.var) AtLeast) low_is) c.in_ok-explain.ensures in
    let to = subst (λ (claim : Claim). IsClaimExplained c.args.pass.now.trail.now claim c.explain.new.clause c.explain-2.new.clause) (c.at_most.ensures ∙ ap (that (Variable c.in-Variable.var) AtMost) high_is) c.in_ok-explain-2.ensures in
    IfOk-weaker c.explain_between.result _ _
    (λ leads told yes.
    let between = subst₂ (λ (x y : ℤ). IsGrown c.args.pass.now.trail.now (LeadsIntoBetween c.args.places.now c.in-Variable.var x y) c.explain-2.new.clause c.explain_between.new.clause) low_is high_is (told yes) in
    subst (λ (t : Term). IsGrown c.args.pass.now.trail.now (λ sets. LeadsInto sets c.args.places.now t) c.args.clause.now c.explain_between.new.clause) (sym c.in-Variable.is)
    (leads_into trail c.args.places.now c.in-Variable.var low high c.args.clause.now c.explain.new.clause c.explain-2.new.clause c.explain_between.new.clause from to between))
    c.explain_between.ensures
