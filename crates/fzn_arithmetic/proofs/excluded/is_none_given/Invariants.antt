use Rattle.std.proofs.Common.{ℤ, pos, ◌+ℤ◌, ◌≤ℤ◌, ◌<ℤ◌}
use Rattle.fzn_meaning.specs.Arithmetic.{IsArithmetic}
use Rattle.fzn_terms.specs.Intervals.{IsIn}
use Rattle.fzn_arithmetic.proofs.excluded.is_none_given.Given as goal

abbrev pub invariant-loop-step : goal.invariant-loop-step
invariant-loop-step l = (x : ℤ) → l.fn.left.low ≤ℤ x → x <ℤ (l.fn.left.low +ℤ pos l.step) → (y r : ℤ) → IsIn l.fn.right y → IsArithmetic l.fn.operation x y r → IsIn l.fn.of r → ⊥
