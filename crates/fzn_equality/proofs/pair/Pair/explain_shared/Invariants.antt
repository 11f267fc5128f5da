use Rattle.std.proofs.Common.{pos, ◌≤ℤ◌}
use Rattle.fzn_domain.specs.declared.domain.TheConstants.{LEAST_VALUE}
use Rattle.fzn_equality.proofs.SharedLemmas.{ShareFrom}
use Rattle.fzn_equality.proofs.pair.Pair.explain_shared.Given as goal

abbrev pub invariant-loop : goal.invariant-loop
invariant-loop l = record {
  shared : ShareFrom l.self l.common.high l.claims l.value;
  least : LEAST_VALUE ≤ℤ l.value;
  greatest : l.value ≤ℤ pos 1000000001;
}
