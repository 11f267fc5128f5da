use Rattle.fzn_numbers.proofs.BitLemmas.{low_mask}
use Rattle.fzn_numbers.proofs.words.low_bits.Goals as goal

pub returns : goal.returns
returns c = low_mask c.args.word c.args.count c.requires.few
