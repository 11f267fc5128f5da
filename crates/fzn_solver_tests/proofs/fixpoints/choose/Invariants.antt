use Rattle.std.proofs.Common.{◌≡◌}
use Rattle.fzn_solver_tests.proofs.fixpoints.choose.Given as goal

abbrev pub invariant-loop-k : goal.invariant-loop-k
invariant-loop-k l = l.trail.declared ≡ l.fn.trail.declared
