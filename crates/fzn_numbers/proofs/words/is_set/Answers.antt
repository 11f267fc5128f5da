use Rattle.fzn_numbers.proofs.BitLemmas.{is_set_there}
use Rattle.fzn_numbers.proofs.words.is_set.Goals as goal

pub returns : goal.returns
returns c = is_set_there c.args.words.now c.args.place
