use Rattle.std.proofs.Common.{◌+◌, sym, subst, List}
use Rattle.fzn_domain.specs.declared.literal.Lit.{Lit}
use Rattle.fzn_terms.specs.Denied.{IsGrown}
use Rattle.fzn_terms.proofs.GrownLemmas.{AreEntailedBelow, said_more, said_same}
use Rattle.fzn_terms.proofs.explanation.explain_claims.Goals as goal
use Rattle.fzn_terms.proofs.explanation.explain_claims.Goals.{then-k-except+in_ok-explain, else-k-except}

pub loop-k-preserved : goal.loop-k-preserved
loop-k-preserved c =
    let trail = c.args.trail.now in
    let claims = c.args.claims.now in
    let before = c.loop-k.invariant in
    elim c.if-k-except.branch [
      | then-k-except+in_ok-explain w ↦
          subst (λ (xs : List Lit). IsGrown c.args.trail.now (AreEntailedBelow (c.loop-k.k + 1) c.args.except c.args.claims.now) c.args.clause.now xs) (sym w.clause-is)
          (said_more trail claims c.args.except c.args.clause.now c.loop-k.k c.loop-k.clause before w.explain.new.clause _ c.loop-k-test.true w.in_ok-explain.ensures)
      | else-k-except w ↦
          subst (λ (xs : List Lit). IsGrown c.args.trail.now (AreEntailedBelow (c.loop-k.k + 1) c.args.except c.args.claims.now) c.args.clause.now xs) (sym w.clause-is)
          (said_same trail claims c.args.except c.args.clause.now c.loop-k.k c.loop-k.clause before w.if-k-except.false)
    ]
