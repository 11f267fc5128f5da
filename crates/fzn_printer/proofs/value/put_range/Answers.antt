use Rattle.std.proofs.Common.{◌≡◌, ◌++◌, List, ℕ}
use Rattle.fzn_streams.proofs.CallerLemmas.{Appends-then, front-left, front-then, Puts-last, Puts-stopped}
use Rattle.fzn_printer.proofs.value.put_range.Goals as goal

-- the low bound and the dots, and then a beginning of the high one
pub returns-in_err-put-clause-text : goal.returns-in_err-put-clause-text
returns-in_err-put-clause-text g c = Puts-stopped _ _ _ _ c.from_residual-in_err-put.ensures.0 (front-left _ _ _ _ (front-then _ _ _ _ _ c.in_ok-put_integer.ensures.text c.in_err-put.ensures.text))

pub returns-clause-text : goal.returns-clause-text
returns-clause-text g c = Puts-last _ _ _ _ _ _ (Appends-then _ _ _ _ _ c.in_ok-put_integer.ensures.text c.in_ok-put.ensures.text) c.put_integer-2.ensures.text
