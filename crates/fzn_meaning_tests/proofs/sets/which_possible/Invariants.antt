use Rattle.std.proofs.Common.{length, take}
use Rattle.fzn_domain.specs.Narrow.{IsClauseOver}
use Rattle.fzn_meaning_tests.proofs.sets.which_possible.Given as goal

abbrev pub invariant-loop-lit : goal.invariant-loop-lit
invariant-loop-lit l = IsClauseOver (length l.sets.present) (take l.lit-index l.clause)
