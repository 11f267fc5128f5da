use Rattle.fzn_domain.specs.Narrow.{IsClauseOver}
use Rattle.fzn_trail_tests.proofs.second_opinion.random_clause.Given as goal

abbrev pub invariant-loop : goal.invariant-loop
invariant-loop l = IsClauseOver 51 l.clause.items
