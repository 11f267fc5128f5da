use Rattle.std.proofs.Common.{◌≡◌, ℕ, length, List, ◌∷◌, ◌++◌, [], arith, ap, subst, ◌∙◌}
use Rattle.fzn_rules.specs.declared.rule.Rule.TheVariants as rule
use Rattle.fzn_terms.specs.declared.claim.Claim.{Claim}
use Rattle.fzn_terms.proofs.ExplanationLemmas.{justified_found}
use Rattle.fzn_equality.specs.ExtremumPasses.{extremum_constraint}
use Rattle.fzn_equality.proofs.EntryLemmas.{IsAgainstExtremum, extremum_first, extremum_push, refuted_each}
use Rattle.fzn_equality.proofs.extremum.pass.ExtremumPass.extremum_or_entries.Goals as goal

pub loop-k-init : goal.loop-k-init
loop-k-init c =
    let pass = c.args.self.now in
    let claim = c.claim_of-claim.result in
    let first : c.push.new.self ≡ claim ∷ [] = c.in_ok-push.ensures.ok ∙ ap (λ (xs : List Claim). xs ++ claim ∷ []) c.in_ok-claims.ensures in
    rw first (extremum_first pass claim c.claim_of-claim.ensures)

pub loop-k-preserved : goal.loop-k-preserved
loop-k-preserved c =
    rw c.in_ok-push-2.ensures.ok (extremum_push c.args.self.now c.claim_of-claim.result c.loop-k.claims c.loop-k.k _ c.in-Some.entry c.loop-k.invariant c.loop-k-test.true c.claim_of-claim.ensures c.in-Some.ensures)

pub returns : goal.returns
returns c =
    let pass = c.args.self.now in
    let end : c.loop-k.k ≡ length pass.entries.now = omega arith in
    justified_found c.explanation_of.result pass.trail.now c.loop-k.claims (extremum_constraint pass) rule.Rows
    (refuted_each pass c.claim_of-claim.result c.loop-k.claims (subst (λ (n : ℕ). IsAgainstExtremum pass c.claim_of-claim.result c.loop-k.claims n) end c.loop-k.invariant))
    (rw c.as_slice.ensures at c.explanation_of.ensures)
