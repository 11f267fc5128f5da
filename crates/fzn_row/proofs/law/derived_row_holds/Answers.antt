use Rattle.fzn_row.proofs.DerivedSound.{derived-holds}
use Rattle.fzn_row.proofs.law.derived_row_holds.Goals as goal

pub returns : goal.returns
returns c = λ given declared most items row values well booleans derived within met. derived-holds given declared values well booleans within most items row derived met
