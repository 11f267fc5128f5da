use Rattle.std.proofs.Common.{arith}
use Rattle.std.proofs.lemmas.Int.{ints}
use Rattle.fzn_arithmetic.proofs.ExcludedLemmas.{few_of}
use Rattle.fzn_arithmetic.proofs.excluded.are_few.Goals as goal

pub returns : goal.returns
returns c = λ yes. few_of c.args.left.low c.args.left.high c.args.right.low c.args.right.high _ _ (c.are_few_pairs.ensures yes) (omega (arith, ints)) (omega (arith, ints))
