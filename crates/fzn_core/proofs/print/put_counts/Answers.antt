use Rattle.fzn_streams.proofs.CallerLemmas.{Appends-then, front-left, front-then, Puts-last, Puts-stopped}
use Rattle.fzn_core.proofs.print.put_counts.Goals as goal

pub returns-in_err-put_number-clause-text : goal.returns-in_err-put_number-clause-text
returns-in_err-put_number-clause-text g c = Puts-stopped _ _ _ _ c.from_residual.ensures.0 (front-left _ _ _ _ (front-left _ _ _ _ (front-left _ _ _ _ c.in_err-put_number.ensures.text)))

pub returns-in_err-put-clause-text : goal.returns-in_err-put-clause-text
returns-in_err-put-clause-text g c = Puts-stopped _ _ _ _ c.from_residual-in_err-put.ensures.0 (front-left _ _ _ _ (front-left _ _ _ _ (front-then _ _ _ _ _ c.in_ok-put_number.ensures.text c.in_err-put.ensures.text)))

pub returns-in_err-put_number-2-clause-text : goal.returns-in_err-put_number-2-clause-text
returns-in_err-put_number-2-clause-text g c = Puts-stopped _ _ _ _ c.from_residual-in_err-put_number-2.ensures.0 (front-left _ _ _ _ (front-then _ _ _ _ _ (Appends-then _ _ _ _ _ c.in_ok-put_number.ensures.text c.in_ok-put.ensures.text) c.in_err-put_number-2.ensures.text))

pub returns-clause-text : goal.returns-clause-text
returns-clause-text g c = Puts-last _ _ _ _ _ _ (Appends-then _ _ _ _ _ (Appends-then _ _ _ _ _ c.in_ok-put_number.ensures.text c.in_ok-put.ensures.text) c.in_ok-put_number-2.ensures.text) c.put_last.ensures.text
