use Rattle.fzn_terms.specs.Denied.{IsGrown}
use Rattle.fzn_terms.proofs.GrownLemmas.{AreEntailedBelow}
use Rattle.fzn_terms.proofs.explanation.explain_claims.Given as goal

abbrev pub invariant-loop-k : goal.invariant-loop-k
invariant-loop-k l = IsGrown l.trail (AreEntailedBelow l.k l.except l.claims) l.fn.clause l.clause
