use Rattle.std.proofs.Common.{take, length, All}
use Rattle.fzn_domain.specs.Narrow.{IsClauseOver}
use Rattle.fzn_propagator.specs.Clause.{Says}
use Rattle.fzn_terms.specs.Denied.{IsDenied}
use Rattle.fzn_terms.proofs.explanation.explanation_of.Given as goal

abbrev pub invariant-loop-claim : goal.invariant-loop-claim
invariant-loop-claim l = record {
  over : IsClauseOver (length l.trail.declared) l.clause;
  denies : Says l.trail.declared l.clause (λ sets. All (IsDenied sets) (take l.claim-index l.claims));
}
