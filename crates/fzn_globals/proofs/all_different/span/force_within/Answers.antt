use Rattle.std.proofs.Common.{ap, sym, subst, ◌∙◌, ℤ, ◌≤ℤ◌, arith}
use Rattle.std.proofs.lemmas.Int.{ints}
use Rattle.std.proofs.lemmas.Bool.{MatchBool-at_true}
use Rattle.std.proofs.lemmas.Result.{IfOk-weaker}
use Rattle.fzn_domain.proofs.DomainLemmas.{real}
use Rattle.fzn_domain.specs.declared.literal.Op.TheVariants.{AtMost, AtLeast}
use Rattle.fzn_terms.specs.declared.claim.Claim.{Claim}
use Rattle.fzn_terms.specs.Denied.{that, IsEntailed, IsClaimExplained, IsClaimForced}
use Rattle.fzn_terms.proofs.OrderLemmas.{le_test}
use Rattle.fzn_globals.proofs.HallLemmas.{high_forced, low_forced}
use Rattle.fzn_globals.proofs.all_different.span.force_within.Goals as goal

pub returns-then-span-least_of : goal.returns-then-span-least_of
returns-then-span-least_of c =
    let trail = c.args.pass.now.trail.now in
    let low = c.args.span.now.low in
    let high = c.args.span.now.high in
    let term = c.args.term in
    IfOk-weaker c.force.result _ _
    (λ found forces told. record {
      grown = high_forced trail low high term c.requires.term c.args.clause.now c.explain.new.clause c.force.new.clause
          (subst (λ (claim : Claim). IsClaimExplained trail claim c.args.clause.now c.explain.new.clause) (c.at_least.ensures ∙ ap (λ (x : ℤ). that term AtLeast x) (real low c.args.span.now.begins)) c.in_ok-explain.ensures)
          (subst (λ (claim : Claim). IsClaimForced trail claim c.explain.new.clause c.force.new.clause) (c.at_most.ensures ∙ ap (λ (x : ℤ). that term AtMost x) (real high c.args.span.now.ends)) (MatchBool-at_true _ _ told forces));
      outside = sym c.lies_within.ensures.value ∙ c.if-lies_within.false;
    })
    c.force.ensures

pub explain-requires-then-greatest_of-span-clause-present : goal.explain-requires-then-greatest_of-span-clause-present
explain-requires-then-greatest_of-span-clause-present c =
    let high = c.args.span.now.high in
    let greatest = c.greatest_of in
    let below : greatest.result ≤ℤ high = omega (arith, ints, greatest.ensures.in_limits.0, greatest.ensures.in_limits.1, c.args.span.now.ends.0, c.args.span.now.ends.1, c.if-greatest_of-span.true) in
    subst (IsEntailed c.args.pass.now.trail.now.sets) (sym (c.at_most-then-greatest_of-span.ensures ∙ ap (λ (x : ℤ). that c.args.term AtMost x) (real high c.args.span.now.ends)))
    (λ v may. le_test v greatest.result high (greatest.ensures.last v may) below)

pub returns-then-greatest_of-span : goal.returns-then-greatest_of-span
returns-then-greatest_of-span c =
    let trail = c.args.pass.now.trail.now in
    let low = c.args.span.now.low in
    let high = c.args.span.now.high in
    let term = c.args.term in
    IfOk-weaker c.force-then-greatest_of-span.result _ _
    (λ found forces told. record {
      grown = low_forced trail low high term c.requires.term c.args.clause.now c.explain-then-greatest_of-span.new.clause c.force-then-greatest_of-span.new.clause
          (subst (λ (claim : Claim). IsClaimExplained trail claim c.args.clause.now c.explain-then-greatest_of-span.new.clause) (c.at_most-then-greatest_of-span.ensures ∙ ap (λ (x : ℤ). that term AtMost x) (real high c.args.span.now.ends)) c.in_ok-explain-2.ensures)
          (subst (λ (claim : Claim). IsClaimForced trail claim c.explain-then-greatest_of-span.new.clause c.force-then-greatest_of-span.new.clause) (c.at_least-then-greatest_of-span.ensures ∙ ap (λ (x : ℤ). that term AtLeast x) (real low c.args.span.now.begins)) (MatchBool-at_true _ _ told forces));
      outside = sym c.lies_within.ensures.value ∙ c.if-lies_within.false;
    })
    c.force-then-greatest_of-span.ensures
