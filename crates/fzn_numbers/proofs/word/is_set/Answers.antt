use Rattle.fzn_numbers.proofs.WordLemmas.{one_bit_is_set}
use Rattle.fzn_numbers.proofs.word.is_set.Goals as goal

pub returns : goal.returns
returns c = one_bit_is_set c.args.word c.args.place c.requires
