use Rattle.fzn_numbers.proofs.BitLemmas.{set_written}
use Rattle.fzn_numbers.proofs.words.set_bit.Goals as goal

pub returns : goal.returns
returns c = set_written c.args.words.now c.args.place c.requires
