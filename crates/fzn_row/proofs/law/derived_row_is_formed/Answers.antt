use Rattle.fzn_row.proofs.FormedSound.{derived_row-formed}
use Rattle.fzn_row.proofs.law.derived_row_is_formed.Goals as goal

pub returns : goal.returns
returns c = λ given declared most items row well derived. derived_row-formed given declared well most items row derived
