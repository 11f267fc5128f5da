use Rattle.fzn_typing.proofs.OneModel.{one_model_lem}
use Rattle.fzn_typing.proofs.law.one_model.Goals as goal

pub returns : goal.returns
returns c = one_model_lem
