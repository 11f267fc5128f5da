use Rattle.fzn_streams.proofs.CallerLemmas.{Appends-then, front-left, front-then, Puts-last, Puts-stopped}
use Rattle.fzn_core.proofs.print.put_line.Goals as goal

pub returns-in_err-put_number-clause-text : goal.returns-in_err-put_number-clause-text
returns-in_err-put_number-clause-text g c = Puts-stopped _ _ _ _ c.from_residual.ensures.0 (front-left _ _ _ _ (front-left _ _ _ _ c.in_err-put_number.ensures.text))

pub returns-in_err-put_position-clause-text : goal.returns-in_err-put_position-clause-text
returns-in_err-put_position-clause-text g c = Puts-stopped _ _ _ _ c.from_residual-in_err-put_position.ensures.0 (front-left _ _ _ _ (front-then _ _ _ _ _ c.in_ok-put_number.ensures.text c.in_err-put_position.ensures.text))

pub returns-clause-text : goal.returns-clause-text
returns-clause-text g c = Puts-last _ _ _ _ _ _ (Appends-then _ _ _ _ _ c.in_ok-put_number.ensures.text c.in_ok-put_position.ensures.text) c.put_item.ensures.text
