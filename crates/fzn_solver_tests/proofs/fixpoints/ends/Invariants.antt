use Rattle.std.proofs.Common.{◌≡◌, length}
use Rattle.fzn_solver_tests.proofs.fixpoints.ends.Given as goal

abbrev pub invariant-loop-k : goal.invariant-loop-k
invariant-loop-k l = length l.ends.items ≡ l.k
