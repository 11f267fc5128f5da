use Rattle.fzn_derive.proofs.DerivedLaws.{derived-Meets}
use Rattle.fzn_derive.proofs.law.derived_is_met.Goals as goal

pub returns : goal.returns
returns c = derived-Meets
