use Rattle.std.proofs.Common.{pos, ◌≤ℤ◌}
use Rattle.fzn_domain.specs.declared.domain.TheConstants.{LEAST_VALUE}
use Rattle.fzn_builtin.proofs.MemberLemmas.{AreAskedBelow}
use Rattle.fzn_builtin.proofs.member.Pass.asked_values.Given as goal

abbrev pub invariant-loop : goal.invariant-loop
invariant-loop l = record {
  asked : AreAskedBelow l.self l.within l.interval l.claims l.from;
  least : LEAST_VALUE ≤ℤ l.from;
  greatest : l.from ≤ℤ pos 1000000001;
}
