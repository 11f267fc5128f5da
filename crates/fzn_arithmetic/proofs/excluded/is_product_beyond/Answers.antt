use Rattle.std.proofs.Common.{inl, inr, arith}
use Rattle.std.proofs.lemmas.Int.{ints}
use Rattle.fzn_arithmetic.proofs.ExcludedLemmas.{above_corners, below_corners}
use Rattle.fzn_arithmetic.proofs.excluded.is_product_beyond.Goals as goal

pub returns-then-high-d : goal.returns-then-high-d
returns-then-high-d c = λ yes.
    inl (above_corners c.args.left c.args.right c.args.of.high (omega (arith, ints)) (omega (arith, ints)) (omega (arith, ints)) (omega (arith, ints)))

pub returns-then-d-low : goal.returns-then-d-low
returns-then-d-low c = λ yes.
    inr (below_corners c.args.left c.args.right c.args.of.low (omega (arith, ints)) (omega (arith, ints)) (omega (arith, ints)) (omega (arith, ints)))
