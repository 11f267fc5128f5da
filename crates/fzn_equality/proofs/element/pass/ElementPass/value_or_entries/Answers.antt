use Rattle.std.proofs.Common.{◌≡◌, length, List, ◌∷◌, ◌++◌, [], arith, ap, subst, ◌∙◌, ℕ, w64, to_z, of_z}
use Rattle.std.proofs.lemmas.Int.{ints}
use Rattle.fzn_rules.specs.declared.rule.Rule.TheVariants as rule
use Rattle.fzn_terms.specs.declared.claim.Claim.{Claim}
use Rattle.fzn_terms.proofs.ExplanationLemmas.{justified_found}
use Rattle.fzn_equality.specs.ElementPasses.{element_constraint}
use Rattle.fzn_equality.proofs.EntryLemmas.{IsAgainstValue, IsClaimDenied, LeadsTo, against_skip, against_push, value_first, refuted_against}
use Rattle.fzn_equality.proofs.element.pass.ElementPass.value_or_entries.Goals as goal
use Rattle.fzn_equality.proofs.element.pass.ElementPass.value_or_entries.Goals.{then-self-place+then-place-self+in-Some+in_ok-push-4, else-self-place, else-self-place-via-then-self-place+else-place-self, else-self-place-via-else-self-place}

pub loop-k-init : goal.loop-k-init
loop-k-init c =
    let pass = c.args.self.now in
    let claim = c.claim_of-claim.result in
    let limits = pass.limited_index in
    let low : to_z w64 (of_z w64 pass.leads.low) ≡ pass.leads.low = omega (arith, ints, limits.0.0, limits.0.1) in
    let high : to_z w64 (of_z w64 pass.leads.high) ≡ pass.leads.high = omega (arith, ints, limits.1.0, limits.1.1) in
    let all : c.push-3.new.self ≡ ((claim ∷ []) ++ c.below.result ∷ []) ++ c.above.result ∷ [] =
    c.in_ok-push-3.ensures.ok ∙ ap (λ (xs : List Claim). xs ++ c.above.result ∷ []) (c.in_ok-push-2.ensures.ok ∙ ap (λ (xs : List Claim). xs ++ c.below.result ∷ []) (c.in_ok-push.ensures.ok ∙ ap (λ (xs : List Claim). xs ++ claim ∷ []) c.in_ok-claims.ensures)) in
    rw all (value_first pass claim c.below.result c.above.result c.claim_of-claim.ensures c.below.ensures.term c.above.ensures.term (rw low at c.below.ensures.denied) (rw high at c.above.ensures.denied))

pub loop-k-preserved : goal.loop-k-preserved
loop-k-preserved c =
    let pass = c.args.self.now in
    let count = length pass.trail.now.declared in
    let claim = c.claim_of-claim.result in
    elim c.if-self-place.branch [
      | then-self-place+then-place-self+in-Some+in_ok-push-4 w ↦
          rw (w.claims-is, w.in_ok-push-4.ensures.ok) (against_push count pass.entries.now pass.value (IsClaimDenied pass claim) (LeadsTo pass) c.loop-k.claims c.loop-k.k c.loop-k.invariant _ claim w.in-Some.entry w.other_place_or.result c.loop-k-test.true (λ sets first. first.0) c.claim_of-claim.ensures w.in-Some.ensures w.other_place_or.ensures.term w.other_place_or.ensures.denied)
      | else-self-place w ↦
          rw w.claims-is (against_skip count pass.entries.now pass.value (IsClaimDenied pass claim) (LeadsTo pass) c.loop-k.claims c.loop-k.k c.loop-k.invariant (λ sets first may.
          let at = first.1 _ may in
          elim w.else-self-place.branch [
            | else-self-place-via-then-self-place+else-place-self v ↦ omega (arith, ints)
            | else-self-place-via-else-self-place v ↦ omega (arith, ints)
          ]))
    ]

pub returns : goal.returns
returns c =
    let pass = c.args.self.now in
    let end : c.loop-k.k ≡ length pass.entries.now = omega arith in
    justified_found c.explanation_of.result pass.trail.now c.loop-k.claims (element_constraint pass) rule.Rows
    (refuted_against pass c.claim_of-claim.result c.loop-k.claims (subst (λ (n : ℕ). IsAgainstValue pass c.claim_of-claim.result c.loop-k.claims n) end c.loop-k.invariant))
    (rw c.as_slice.ensures at c.explanation_of.ensures)
