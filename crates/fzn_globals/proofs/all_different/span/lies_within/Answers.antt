use Rattle.std.proofs.Common.{arith}
use Rattle.std.proofs.lemmas.Int.{ints}
use Rattle.fzn_globals.proofs.all_different.span.lies_within.Goals as goal

pub returns-then-span-least_of-clause-within : goal.returns-then-span-least_of-clause-within
returns-then-span-least_of-clause-within c = λ told v may.
    let span = c.args.span.now in
    let least = c.least_of.ensures in
    let greatest = c.greatest_of.ensures in (
      omega (arith, ints, least.in_limits.0, least.in_limits.1, span.begins.0, span.begins.1, c.if-span-least_of.true, least.first v may),
      omega (arith, ints, greatest.in_limits.0, greatest.in_limits.1, span.ends.0, span.ends.1, told, greatest.last v may),
    )
