use Rattle.fzn_numbers.proofs.BitLemmas.{bits_by_word}
use Rattle.fzn_numbers.proofs.words.ones_in.Goals as goal

pub returns-clause-count : goal.returns-clause-count
returns-clause-count c = bits_by_word c.args.words.now c.args.place c.low_word.result c.low_word.ensures
