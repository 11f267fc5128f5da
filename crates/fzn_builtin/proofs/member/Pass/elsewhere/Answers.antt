use Rattle.std.proofs.Common.{length, List, ◌∷◌, ◌++◌, [], sym, subst, ◌∙◌, IfOk, IfSome, Option, All}
use Rattle.std.proofs.lemmas.List.Elements.{All-push}
use Rattle.fzn_values.specs.Term.{IsTerm}
use Rattle.fzn_rules.specs.declared.rule.Rule.TheVariants as rule
use Rattle.fzn_terms.specs.declared.claim.Claim.{Claim}
use Rattle.fzn_terms.specs.Denied.{ExplainsClaims}
use Rattle.fzn_terms.proofs.ExplanationLemmas.{justified_found}
use Rattle.fzn_builtin.specs.Passes.{membership_constraint, AreAsked}
use Rattle.fzn_builtin.proofs.MemberLemmas.{refuted_elsewhere}
use Rattle.fzn_builtin.proofs.member.Pass.elsewhere.Goals as goal

pub explanation_of-requires : goal.explanation_of-requires
explanation_of-requires c =
    let count = length c.args.self.now.trail.now.declared in
    let asked = subst (λ (o : Option (List Claim)). IfSome o (AreAsked c.args.self.now c.args.within)) c.in-Some-2.is c.in_ok-claims.ensures in
    subst (λ (xs : List Claim). All (λ (claim : Claim). IsTerm count claim.term) xs) (sym (c.as_slice.ensures ∙ c.in_ok-push.ensures.ok))
    (All-push (λ (claim : Claim). IsTerm count claim.term) c.in-Some-2.claims c.in-Some.otherwise asked.terms c.in-Some.ensures.term)

pub returns : goal.returns
returns c =
    let pass = c.args.self.now in
    let asked = subst (λ (o : Option (List Claim)). IfSome o (AreAsked c.args.self.now c.args.within)) c.in-Some-2.is c.in_ok-claims.ensures in
    justified_found c.explanation_of.result pass.trail.now (c.in-Some-2.claims ++ c.in-Some.otherwise ∷ []) (membership_constraint pass) rule.Rows
    (refuted_elsewhere pass c.args.within c.in-Some-2.claims c.in-Some.otherwise asked c.in-Some.ensures.denied)
    (subst (λ (xs : List Claim). IfOk c.explanation_of.result (λ o. IfSome o (ExplainsClaims c.args.self.now.trail.now xs))) (c.as_slice.ensures ∙ c.in_ok-push.ensures.ok) c.explanation_of.ensures)
