use Rattle.std.proofs.Common.{arith}
use Rattle.std.proofs.lemmas.Bool.{eqb-true}
use Rattle.fzn_table.proofs.WordsLemmas.{lanes_apart}
use Rattle.fzn_table.proofs.words.has_common.Goals as goal

pub returns : goal.returns
returns c = λ told. lanes_apart c.args.words c.args.others (grind (arith, told, eqb-true)) 4
