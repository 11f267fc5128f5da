use Rattle.std.proofs.Common.{◌≡◌, length}
use Rattle.fzn_trail_tests.proofs.second_opinion.declared.Given as goal

abbrev pub invariant-loop : goal.invariant-loop
invariant-loop l = length l.declared.items ≡ l.counter
