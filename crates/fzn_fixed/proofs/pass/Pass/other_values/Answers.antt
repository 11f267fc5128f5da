use Rattle.std.proofs.Common.{◌≡◌, ◌+◌, ◌<◌, ℕ, length, List, ◌∷◌, ◌++◌, [], arith, sym, subst, ◌∙◌, pos, IfOk, IfSome, All}
use Rattle.std.proofs.lemmas.Int.{ints}
use Rattle.std.proofs.lemmas.List.Elements.{All-push}
use Rattle.fzn_values.specs.Term.{IsTerm}
use Rattle.fzn_rules.specs.declared.rule.Rule.TheVariants.{Fixed}
use Rattle.fzn_terms.specs.declared.claim.Claim.{Claim}
use Rattle.fzn_terms.specs.Denied.{ExplainsClaims}
use Rattle.fzn_terms.proofs.ExplanationLemmas.{justified_found}
use Rattle.fzn_fixed.proofs.FixedLemmas.{AreOthers, others_none, others_push, refuted_others}
use Rattle.fzn_fixed.proofs.pass.Pass.other_values.Goals as goal

pub loop-k-init : goal.loop-k-init
loop-k-init c =
    subst (λ (xs : List Claim). AreOthers c.args.self.now c.args.values.now xs 0) (sym c.new-claims.ensures) (others_none c.args.self.now c.args.values.now)

pub loop-k-preserved : goal.loop-k-preserved
loop-k-preserved c =
    let below : c.loop-k.k < length c.args.values.now = omega arith in
    let limits = c.requires.in_limits c.loop-k.k (pos 0) below in
    subst (λ (xs : List Claim). AreOthers c.args.self.now c.args.values.now xs (c.loop-k.k + 1)) (sym c.in_ok-push.ensures.ok)
    (others_push c.args.self.now c.args.values.now c.loop-k.claims c.loop-k.k _ _ c.other_than.result c.loop-k.invariant c.loop-k-test.true (omega (arith, ints, limits.0, limits.1)) c.other_than.ensures.term c.other_than.ensures.denied)

pub explanation_of-requires : goal.explanation_of-requires
explanation_of-requires c =
    let count = length c.args.self.now.trail.now.declared in
    subst (λ (xs : List Claim). All (λ (claim : Claim). IsTerm count claim.term) xs) (sym (c.as_slice.ensures ∙ c.in_ok-push-2.ensures.ok))
    (All-push (λ (claim : Claim). IsTerm count claim.term) c.loop-k.claims c.in-Some.claim c.loop-k.invariant.terms c.in-Some.ensures.term)

pub returns : goal.returns
returns c =
    let pass = c.args.self.now in
    let end : c.loop-k.k ≡ length pass.inputs.now = omega arith in
    justified_found c.explanation_of.result pass.trail.now (c.loop-k.claims ++ c.in-Some.claim ∷ []) pass.constraint.now Fixed
    (refuted_others pass c.args.values.now c.args.image c.loop-k.claims c.in-Some.claim c.requires.one_each c.requires.image (subst (λ (n : ℕ). AreOthers pass c.args.values.now c.loop-k.claims n) end c.loop-k.invariant) c.in-Some.ensures.none)
    (subst (λ (xs : List Claim). IfOk c.explanation_of.result (λ o. IfSome o (ExplainsClaims pass.trail.now xs))) (c.as_slice.ensures ∙ c.in_ok-push-2.ensures.ok) c.explanation_of.ensures)
