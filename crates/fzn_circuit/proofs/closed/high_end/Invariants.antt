use Rattle.std.proofs.Common.{◌≤ℤ◌}
use Rattle.fzn_domain.specs.Limits.{IsInLimits}
use Rattle.fzn_circuit.proofs.closed.high_end.Given as goal

abbrev pub invariant-loop : goal.invariant-loop
invariant-loop l = record { limits : IsInLimits l.high; order : l.greatest ≤ℤ l.high }
