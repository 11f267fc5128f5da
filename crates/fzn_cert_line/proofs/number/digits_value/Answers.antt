use Rattle.std.proofs.Common.{arith}
use Rattle.std.proofs.Common.{lit<}
use Rattle.std.proofs.lemmas.Str.Parse.{digits_value-take-le}
use Rattle.fzn_cert_line.proofs.NumberLaws.{digits_step, digits_bound}
use Rattle.fzn_cert_line.proofs.number.digits_value.Goals as goal

pub overflow_mul-number : goal.overflow_mul-number
overflow_mul-number c =
    let step = digits_step c.args.digits.now c.loop-digit.digit-index c.requires.digits c.requires.length c.loop-digit-test.true in
    omega (arith, step.0, step.1, c.loop-digit.invariant)

pub overflow_add-number : goal.overflow_add-number
overflow_add-number c =
    let step = digits_step c.args.digits.now c.loop-digit.digit-index c.requires.digits c.requires.length c.loop-digit-test.true in
    omega (arith, step.0, step.1, c.loop-digit.invariant, c.from.ensures)

pub loop-digit-preserved : goal.loop-digit-preserved
loop-digit-preserved c =
    let step = digits_step c.args.digits.now c.loop-digit.digit-index c.requires.digits c.requires.length c.loop-digit-test.true in
    omega (arith, step.0, step.1, c.loop-digit.invariant, c.from.ensures)

pub returns-clause-short : goal.returns-clause-short
returns-clause-short c =
    let upto = digits_value-take-le 10 c.args.digits.now c.loop-digit.digit-index (lit< tt) in
    let bound = digits_bound c.args.digits.now c.requires.digits c.requires.length in
    omega (arith, upto, bound, c.loop-digit.invariant)
