use Rattle.std.proofs.Common.{◌≡◌, pos, ◌+ℤ◌, List, ◌∷◌, ◌++◌, [], arith, ap, ◌∙◌, length, w64, to_z, of_z}
use Rattle.std.proofs.lemmas.Int.{ints}
use Rattle.std.proofs.lemmas.List.Elements.{All-push}
use Rattle.fzn_values.specs.Term.{IsTerm}
use Rattle.fzn_rules.specs.declared.rule.Rule.TheVariants as rule
use Rattle.fzn_terms.specs.declared.claim.Claim.{Claim}
use Rattle.fzn_terms.proofs.ExplanationLemmas.{justified_found}
use Rattle.fzn_equality.proofs.SharedLemmas.{share_first, share_push, refuted_shared}
use Rattle.fzn_equality.proofs.pair.Pair.explain_shared.Goals as goal

pub loop-init : goal.loop-init
loop-init c =
    let common = c.common_ends-common.result in
    let limits = c.common_ends-common.ensures in
    let high : to_z w64 (of_z w64 common.high) ≡ common.high = omega (arith, ints, limits.1.0, limits.1.1) in
    let all : c.push-2.new.self ≡ c.one_below.result ∷ c.one_above.result ∷ [] =
    c.in_ok-push-2.ensures.ok ∙ ap (λ (xs : List Claim). xs ++ c.one_above.result ∷ []) (c.in_ok-push.ensures.ok ∙ ap (λ (xs : List Claim). xs ++ c.one_below.result ∷ []) c.new-claims.ensures) in
    record {
      shared = rw all (share_first c.args.self.now common.high c.one_below.result c.one_above.result (to_z w64 (of_z w64 common.low)) c.one_below.ensures.term c.one_above.ensures.term c.one_below.ensures.denied (rw high at c.one_above.ensures.denied));
      least = omega (arith, ints, limits.0.0, limits.0.1);
      greatest = omega (arith, ints, limits.0.0, limits.0.1);
    }

pub loop-preserved : goal.loop-preserved
loop-preserved c =
    let value = to_z w64 c.loop.value-bits in
    let limits = c.common_ends-common.ensures in
    let next : to_z w64 (of_z w64 (value +ℤ pos 1)) ≡ value +ℤ pos 1 = omega (arith, ints, limits.1.0, limits.1.1) in
    record {
      shared = rw (next, c.in_ok-push-4.ensures.ok) (share_push c.args.self.now c.common_ends-common.result.high c.loop.claims value c.loop.invariant.shared c.one_is.result c.one_is.ensures.term c.one_is.ensures.denied);
      least = omega (arith, ints, limits.1.0, limits.1.1);
      greatest = omega (arith, ints, limits.1.0, limits.1.1);
    }

pub explanation_of-requires : goal.explanation_of-requires
explanation_of-requires c =
    rw (c.as_slice.ensures, c.in_ok-push-3.ensures.ok) (All-push (λ (claim : Claim). IsTerm (length c.args.self.now.trail.now.declared) claim.term) c.loop.claims c.args.besides c.loop.invariant.shared.terms c.requires)

pub returns-then-common-value : goal.returns-then-common-value
returns-then-common-value c = λ constraint met.
    let pair = c.args.self.now in
    let limits = c.common_ends-common.ensures in
    justified_found c.explanation_of.result pair.trail.now (c.loop.claims ++ c.args.besides ∷ []) constraint rule.Rows
    (refuted_shared pair c.common_ends-common.result.high c.loop.claims (to_z w64 c.loop.value-bits) c.loop.invariant.shared c.args.besides c.requires constraint (omega (arith, ints, limits.1.0, limits.1.1)) met)
    (rw (c.as_slice.ensures, c.in_ok-push-3.ensures.ok) at c.explanation_of.ensures)
