use Rattle.std.proofs.Common.{ℤ, pos, ◌+ℤ◌, arith}
use Rattle.std.proofs.lemmas.Int.{ints}
use Rattle.fzn_meaning.specs.Arithmetic.{IsArithmetic}
use Rattle.fzn_terms.specs.Intervals.{IsIn}
use Rattle.fzn_arithmetic.proofs.ExcludedLemmas.{none_more}
use Rattle.fzn_arithmetic.proofs.excluded.is_none_given.Goals as goal

pub loop-step-init : goal.loop-step-init
loop-step-init c = λ x from upto. absurd (omega (arith, ints))

pub loop-step-preserved : goal.loop-step-preserved
loop-step-preserved c = λ x from upto.
    none_more (λ (z : ℤ). (y r : ℤ) → IsIn c.args.right y → IsArithmetic c.args.operation z y r → IsIn c.args.of r → ⊥) c.args.left.low (c.args.left.low +ℤ pos c.loop-step.step) _ c.loop-step.invariant (c.is_none_given_by.ensures c.if-not-is_none_given_by.false) (omega (arith, ints)) x from (omega (arith, ints))

pub returns-then-left-number : goal.returns-then-left-number
returns-then-left-number c = λ yes. (
  c.are_few.ensures c.if-not-are_few.false,
  λ x y r left right gives inside. c.loop-step.invariant x left.0 (omega (arith, ints)) y r right gives inside,
)
