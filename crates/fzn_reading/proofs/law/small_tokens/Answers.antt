use Rattle.fzn_reading.proofs.LimitLemmas.{lexed_small}
use Rattle.fzn_reading.proofs.law.small_tokens.Goals as goal

pub returns : goal.returns
returns c = lexed_small
