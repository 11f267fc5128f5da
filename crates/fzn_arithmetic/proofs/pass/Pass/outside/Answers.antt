use Rattle.std.proofs.Common.{length, ◌∷◌, []}
use Rattle.std.proofs.lemmas.List.Elements.{All-from_recursion}
use Rattle.fzn_values.specs.Term.{IsTerm}
use Rattle.fzn_terms.specs.declared.claim.Claim.{Claim}
use Rattle.fzn_terms.proofs.ExplanationLemmas.{justified_found}
use Rattle.fzn_arithmetic.specs.Excluded.{rule_of}
use Rattle.fzn_arithmetic.specs.Passes.{shape_constraint}
use Rattle.fzn_arithmetic.proofs.ExcludedLemmas.{refuted_shaped}
use Rattle.fzn_arithmetic.proofs.pass.Pass.outside.Goals as goal

pub explanation_of-requires : goal.explanation_of-requires
explanation_of-requires c =
    let pass = c.args.self.now in
    let count = length pass.trail.now.declared in
    let l = c.outside.ensures.terms count pass.left_fits in
    let r = c.outside-2.ensures.terms count pass.right_fits in
    let o = c.outside-3.ensures.terms count pass.of_fits in
    All-from_recursion (λ (claim : Claim). IsTerm count claim.term) (c.outside.result.0 ∷ c.outside.result.1 ∷ c.outside-2.result.0 ∷ c.outside-2.result.1 ∷ c.outside-3.result.0 ∷ c.outside-3.result.1 ∷ [])
    (l.0, (l.1, (r.0, (r.1, (o.0, (o.1, tt))))))

pub returns : goal.returns
returns c =
    let pass = c.args.self.now in
    justified_found c.explanation_of.result pass.trail.now (c.outside.result.0 ∷ c.outside.result.1 ∷ c.outside-2.result.0 ∷ c.outside-2.result.1 ∷ c.outside-3.result.0 ∷ c.outside-3.result.1 ∷ []) (shape_constraint pass) (rule_of pass.shape)
    (refuted_shaped pass c.args.within.left c.args.within.right c.args.within.of _ _ _ _ _ _ c.outside.ensures.inside c.outside-2.ensures.inside c.outside-3.ensures.inside (c.is_excluded.ensures c.if-not-is_excluded.false).none)
    c.explanation_of.ensures
