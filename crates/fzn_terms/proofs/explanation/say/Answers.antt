use Rattle.std.proofs.Common.{rules, w64, to_z, of_z, FitsSigned, ℤ, ◌≡◌, ◌∷◌, [], ◌++◌, List, length, sym, ap, subst, ◌∙◌}
use Rattle.std.proofs.lemmas.Int.{to_z-of_z}
use Rattle.fzn_domain.specs.declared.literal.Lit.{Lit}
use Rattle.fzn_values.specs.Term.{IsTerm}
use Rattle.fzn_terms.specs.Denied.{IsSaid}
use Rattle.fzn_terms.proofs.ExplanationLemmas.{said_never, said_push}
use Rattle.fzn_terms.proofs.explanation.say.Goals as goal

pub returns-then-is_never : goal.returns-then-is_never
returns-then-is_never c = λ _. said_never c.args.trail.now.declared c.args.claim c.args.clause.now c.requires.over c.requires.term (c.is_never.ensures.0 c.if-is_never.true)

pub returns : goal.returns
returns c = λ _.
    let declared = c.args.trail.now.declared in
    let fits : FitsSigned w64 c.args.claim.number = search rules in
    let same : to_z w64 (of_z w64 c.args.claim.number) ≡ c.args.claim.number = to_z-of_z w64 c.args.claim.number fits in
    subst (λ (xs : List Lit). IsSaid declared c.args.claim c.args.clause.now xs)
    (sym (c.in_ok-push.ensures.ok ∙ ap (λ (x : ℤ). c.args.clause.now ++ record { var = c.in-Variable.var; op = c.args.claim.op; value = x } ∷ []) same))
    (said_push declared c.args.claim c.args.clause.now c.requires.over c.in-Variable.var c.in-Variable.is (subst (IsTerm (length declared)) c.in-Variable.is c.requires.term))
