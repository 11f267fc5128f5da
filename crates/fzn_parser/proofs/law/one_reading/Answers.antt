use Rattle.fzn_parser.proofs.OneTree.{one_reading}
use Rattle.fzn_parser.proofs.law.one_reading.Goals as goal

pub returns : goal.returns
returns c = one_reading
