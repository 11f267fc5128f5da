use Rattle.fzn_row.proofs.DerivedSound.{one-derived_row, no-row_fault, one-row_fault}
use Rattle.fzn_row.proofs.law.one_derived_row.Goals as goal

pub returns : goal.returns
returns c = record { row = one-derived_row; none = no-row_fault; fault = one-row_fault }
