use Rattle.std.proofs.Common.{ℤ, pos, ◌+ℤ◌, ◌≤ℤ◌, ◌<ℤ◌}
use Rattle.fzn_meaning.specs.Arithmetic.{IsArithmetic}
use Rattle.fzn_terms.specs.Intervals.{IsIn}
use Rattle.fzn_arithmetic.proofs.excluded.is_none_given_by.Given as goal

abbrev pub invariant-loop-step : goal.invariant-loop-step
invariant-loop-step l = (y : ℤ) → l.fn.right.low ≤ℤ y → y <ℤ (l.fn.right.low +ℤ pos l.step) → (r : ℤ) → IsArithmetic l.fn.operation l.left y r → IsIn l.fn.of r → ⊥
