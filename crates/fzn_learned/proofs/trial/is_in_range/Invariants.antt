use Rattle.std.proofs.Common.{take}
use Rattle.std.specs.List.{All}
use Rattle.fzn_domain.specs.declared.literal.Lit.{Lit}
use Rattle.fzn_domain.specs.Limits.{IsInLimits}
use Rattle.fzn_domain.specs.Narrow.{IsClauseOver}
use Rattle.fzn_learned.proofs.trial.is_in_range.Given as goal

abbrev pub invariant-loop-lit : goal.invariant-loop-lit
invariant-loop-lit l = record {
  over : IsClauseOver l.vars (take l.lit-index l.clause);
  in_limits : All (λ (lit : Lit). IsInLimits lit.value) (take l.lit-index l.clause);
}
