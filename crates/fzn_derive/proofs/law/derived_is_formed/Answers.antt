use Rattle.fzn_derive.proofs.DerivedLaws.{derived-formed}
use Rattle.fzn_derive.proofs.law.derived_is_formed.Goals as goal

pub returns : goal.returns
returns c = derived-formed
