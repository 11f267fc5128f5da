use Rattle.fzn_reading.proofs.OneModel.{one_read}
use Rattle.fzn_reading.proofs.law.one_model.Goals as goal

pub returns : goal.returns
returns c = one_read
