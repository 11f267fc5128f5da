use Rattle.fzn_numbers.proofs.BitLemmas.{clear_written}
use Rattle.fzn_numbers.proofs.words.clear_bit.Goals as goal

pub returns : goal.returns
returns c = clear_written c.args.words.now c.args.place c.requires
