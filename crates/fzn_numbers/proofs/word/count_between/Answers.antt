use Rattle.std.proofs.Common.{arith}
use Rattle.fzn_numbers.proofs.WordLemmas.{ones_rise}
use Rattle.fzn_numbers.proofs.word.count_between.Goals as goal

pub overflow_sub-result : goal.overflow_sub-result
overflow_sub-result c = omega (arith, c.ones_in.ensures, c.ones_in-2.ensures, ones_rise c.args.word c.args.from c.args.end c.requires.ordered)

pub returns : goal.returns
returns c = omega (arith, c.ones_in.ensures, c.ones_in-2.ensures, ones_rise c.args.word c.args.from c.args.end c.requires.ordered)
