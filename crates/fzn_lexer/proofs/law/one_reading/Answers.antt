use Rattle.fzn_lexer.proofs.OneList.{one_reading}
use Rattle.fzn_lexer.proofs.law.one_reading.Goals as goal

pub returns : goal.returns
returns c = one_reading
