use Rattle.std.proofs.Common.{ℤ, pos, ◌+ℤ◌, arith}
use Rattle.std.proofs.lemmas.Int.{ints}
use Rattle.fzn_meaning.specs.Arithmetic.{IsArithmetic}
use Rattle.fzn_terms.specs.Intervals.{IsIn}
use Rattle.fzn_arithmetic.proofs.ExcludedLemmas.{none_more}
use Rattle.fzn_arithmetic.proofs.excluded.is_none_given_by.Goals as goal

pub loop-step-init : goal.loop-step-init
loop-step-init c = λ y from upto. absurd (omega (arith, ints))

pub loop-step-preserved : goal.loop-step-preserved
loop-step-preserved c = λ y from upto.
    none_more (λ (z : ℤ). (r : ℤ) → IsArithmetic c.args.operation c.args.left.now z r → IsIn c.args.of r → ⊥) c.args.right.low (c.args.right.low +ℤ pos c.loop-step.step) _ c.loop-step.invariant (λ r gives. c.admits_some.ensures c.if-admits_some.false r ((c.of_operation.ensures r).0 gives)) (omega (arith, ints)) y from (omega (arith, ints))
