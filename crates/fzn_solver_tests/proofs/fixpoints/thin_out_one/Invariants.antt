use Rattle.std.proofs.Common.{◌≡◌}
use Rattle.fzn_solver_tests.proofs.fixpoints.thin_out_one.Given as goal

abbrev pub invariant-loop-offset : goal.invariant-loop-offset
invariant-loop-offset l = l.trail.declared ≡ l.fn.trail.declared
