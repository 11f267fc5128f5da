use Rattle.std.proofs.Common.{rules, w64, to_z, of_z, FitsSigned, ℤ, ◌≡◌, ◌∷◌, [], ◌++◌, true, false, List, length, sym, ap, ap₂, subst, ◌∙◌}
use Rattle.std.proofs.lemmas.Int.{to_z-of_z}
use Rattle.std.proofs.lemmas.Bool.{not-true, not-false}
use Rattle.fzn_domain.specs.declared.literal.Lit.{Lit}
use Rattle.fzn_domain.specs.Limits.{IsLimited}
use Rattle.fzn_domain.specs.Literal.{negated}
use Rattle.fzn_domain.specs.IntSet.{is_possible}
use Rattle.fzn_domain.specs.Narrow.{set_of}
use Rattle.fzn_values.specs.Term.{IsTerm}
use Rattle.fzn_terms.specs.Denied.{IsClaimExplained}
use Rattle.fzn_terms.proofs.DeniedLemmas.{explained_constant, explained_declared, explained_push}
use Rattle.fzn_terms.proofs.explanation.explain.Goals as goal

pub returns-in_default : goal.returns-in_default
returns-in_default c = explained_constant c.args.trail.now c.args.claim c.args.clause.now c.requires.still c.in_default.field-0 c.in_default.is c.requires.present

pub returns-in_ok-push : goal.returns-in_ok-push
returns-in_ok-push c =
    let trail = c.args.trail.now in
    let fits : FitsSigned w64 c.args.claim.number = search rules in
    let same : to_z w64 (of_z w64 c.args.claim.number) ≡ c.args.claim.number = to_z-of_z w64 c.args.claim.number fits in
    let opposite : c.negated-lit.result ≡ negated (record { var = c.in-Variable.var; op = c.args.claim.op; value = c.args.claim.number }) = c.negated-lit.ensures.value ∙ ap (λ (x : ℤ). negated (record { var = c.in-Variable.var; op = c.args.claim.op; value = x })) same in
    let variable = subst (IsTerm (length trail.declared)) c.in-Variable.is c.requires.term in
    let possible : is_possible (set_of trail.declared c.in-Variable.var) (negated (record { var = c.in-Variable.var; op = c.args.claim.op; value = c.args.claim.number })) ≡ true =
    sym (ap₂ is_possible c.declared-declared.ensures opposite) ∙ not-false _ (sym c.is_false.ensures ∙ c.if-not-is_false.true) in
    let limited : IsLimited (set_of trail.declared c.in-Variable.var) = subst IsLimited c.declared-declared.ensures c.is_empty-none.ensures.limited in
    subst (λ (xs : List Lit). IsClaimExplained trail c.args.claim c.args.clause.now xs)
    (sym (c.in_ok-push.ensures.ok ∙ ap (λ (l : Lit). c.args.clause.now ++ l ∷ []) opposite))
    (explained_push trail c.args.claim c.args.clause.now c.requires.still c.in-Variable.var c.in-Variable.is variable c.domain-domain.ensures.narrower limited c.requires.filled c.requires.present possible)

pub returns-else-not-is_false : goal.returns-else-not-is_false
returns-else-not-is_false c =
    let trail = c.args.trail.now in
    let fits : FitsSigned w64 c.args.claim.number = search rules in
    let same : to_z w64 (of_z w64 c.args.claim.number) ≡ c.args.claim.number = to_z-of_z w64 c.args.claim.number fits in
    let opposite : c.negated-lit.result ≡ negated (record { var = c.in-Variable.var; op = c.args.claim.op; value = c.args.claim.number }) = c.negated-lit.ensures.value ∙ ap (λ (x : ℤ). negated (record { var = c.in-Variable.var; op = c.args.claim.op; value = x })) same in
    let variable = subst (IsTerm (length trail.declared)) c.in-Variable.is c.requires.term in
    let impossible : is_possible (set_of trail.declared c.in-Variable.var) (negated (record { var = c.in-Variable.var; op = c.args.claim.op; value = c.args.claim.number })) ≡ false =
    sym (ap₂ is_possible c.declared-declared.ensures opposite) ∙ not-true _ (sym c.is_false.ensures ∙ c.if-not-is_false.false) in
    explained_declared trail c.args.claim c.args.clause.now c.requires.still c.in-Variable.var c.in-Variable.is variable impossible
