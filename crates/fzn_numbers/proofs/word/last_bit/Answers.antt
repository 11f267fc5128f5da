use Rattle.std.proofs.Common.{arith, [], ◌∷◌}
use Rattle.fzn_numbers.proofs.BitLemmas.{last_of_low}
use Rattle.fzn_numbers.proofs.WordLemmas.{none_below_in_word}
use Rattle.fzn_numbers.proofs.word.last_bit.Goals as goal

pub returns-then-low-eq0-clause-none : goal.returns-then-low-eq0-clause-none
returns-then-low-eq0-clause-none c = none_below_in_word c.args.word c.args.end c.low_word-low.result c.requires c.low_word-low.ensures c.if-low-eq0.true

pub returns-clause-found : goal.returns-clause-found
returns-clause-found c = last_of_low (c.args.word ∷ []) c.args.end 0 c.args.end c.low_word-low.result (omega arith) c.requires c.low_word-low.ensures (omega arith) c.if-low-eq0.false
