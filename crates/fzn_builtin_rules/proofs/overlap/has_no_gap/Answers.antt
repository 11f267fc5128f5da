use Rattle.std.proofs.Common.{arith}
use Rattle.std.proofs.lemmas.Int.{ints}
use Rattle.fzn_builtin_rules.proofs.OverlapLemmas.{no_gap}
use Rattle.fzn_builtin_rules.proofs.overlap.has_no_gap.Goals as goal

pub returns : goal.returns
returns c = λ yes. no_gap c.args.set.now (omega (arith, ints))
