use Rattle.std.proofs.Common.{get_or, pos, ap, subst, ◌∙◌, ℤ}
use Rattle.std.proofs.lemmas.Bool.{MatchBool-at_true, MatchBool-at_false}
use Rattle.fzn_domain.proofs.DomainLemmas.{real}
use Rattle.fzn_domain.specs.declared.literal.Op.TheVariants.{Equal}
use Rattle.fzn_values.specs.declared.term.Term.{Term}
use Rattle.fzn_values.specs.declared.term.Term.TheVariants.{Constant}
use Rattle.fzn_terms.specs.declared.claim.Claim.{Claim}
use Rattle.fzn_terms.specs.Denied.{that, IsDenied, IsClaimExplained, IsClaimForced}
use Rattle.fzn_globals.proofs.ApartLemmas.{apart_explained, not_at}
use Rattle.fzn_globals.proofs.KindLemmas.{hall_justified}
use Rattle.fzn_globals.proofs.all_different.pairs.explain_apart.Goals as goal

pub returns-then-branch-clause-found : goal.returns-then-branch-clause-found
returns-then-branch-clause-found c =
    let trail = c.args.pass.now.trail.now in
    let places = c.args.pass.now.places.now in
    let value = c.args.value.now in
    let d : Term = Constant (pos 0) in
    let same = real value c.requires.limits in
    hall_justified trail places value value c.force.new.clause
    (apart_explained trail places c.args.i c.args.j d d value c.in_ok-clause.clause c.explain.new.clause c.force.new.clause c.args.pass.now.fit c.requires.first c.requires.second c.requires.apart
    (subst (λ (claim : Claim). IsClaimExplained trail claim c.in_ok-clause.clause c.explain.new.clause) (c.equal.ensures.value ∙ ap (λ (x : ℤ). that (get_or places c.args.i d) Equal x) same) c.in_ok-explain.ensures)
    (subst (λ (claim : Claim). IsClaimForced trail claim c.explain.new.clause c.force.new.clause) (c.equal-2.ensures.value ∙ ap (λ (x : ℤ). that (get_or places c.args.j d) Equal x) same) (MatchBool-at_true _ _ c.if-branch.true c.in_ok-force.ensures)))

pub returns-else-branch-clause-none : goal.returns-else-branch-clause-none
returns-else-branch-clause-none c = λ e f only.
    let sets = c.args.pass.now.trail.now.sets in
    let places = c.args.pass.now.places.now in
    let value = c.args.value.now in
    let d : Term = Constant (pos 0) in
    not_at sets places c.args.j d f value c.requires.second
    (subst (IsDenied sets) (c.equal-2.ensures.value ∙ ap (λ (x : ℤ). that (get_or places c.args.j d) Equal x) (real value c.requires.limits)) (MatchBool-at_false _ _ c.if-branch.false c.in_ok-force.ensures))
