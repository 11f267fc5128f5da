use Rattle.std.proofs.Common.{ap, subst, ◌∙◌, ℤ}
use Rattle.fzn_domain.proofs.DomainLemmas.{real}
use Rattle.fzn_domain.specs.declared.literal.Op.TheVariants.{AtMost, AtLeast}
use Rattle.fzn_terms.specs.declared.claim.Claim.{Claim}
use Rattle.fzn_terms.specs.Denied.{that, IsClaimExplained}
use Rattle.fzn_globals.proofs.HallLemmas.{within_explained}
use Rattle.fzn_globals.proofs.all_different.span.explain_within.Goals as goal

pub returns : goal.returns
returns c =
    let trail = c.args.pass.now.trail.now in
    let low = c.args.span.now.low in
    let high = c.args.span.now.high in
    let term = c.args.term in
    within_explained trail low high term c.requires.term c.args.clause.now c.explain.new.clause c.explain-2.new.clause
    (subst (λ (claim : Claim). IsClaimExplained trail claim c.args.clause.now c.explain.new.clause) (c.at_least.ensures ∙ ap (λ (x : ℤ). that term AtLeast x) (real low c.args.span.now.begins)) c.in_ok-explain.ensures)
    (subst (λ (claim : Claim). IsClaimExplained trail claim c.explain.new.clause c.explain-2.new.clause) (c.at_most.ensures ∙ ap (λ (x : ℤ). that term AtMost x) (real high c.args.span.now.ends)) c.in_ok-explain-2.ensures)
