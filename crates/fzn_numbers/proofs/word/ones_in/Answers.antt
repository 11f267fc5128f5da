use Rattle.fzn_numbers.proofs.WordLemmas.{ones_below}
use Rattle.fzn_numbers.proofs.word.ones_in.Goals as goal

pub returns : goal.returns
returns c = ones_below c.args.word c.args.place c.low_word.result c.requires c.low_word.ensures
