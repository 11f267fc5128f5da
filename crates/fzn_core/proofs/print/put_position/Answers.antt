use Rattle.fzn_streams.proofs.CallerLemmas.{Appends-then, front-left, front-then, Puts-last, Puts-stopped}
use Rattle.fzn_core.proofs.print.put_position.Goals as goal

pub returns-in_err-put_labelled-clause-text : goal.returns-in_err-put_labelled-clause-text
returns-in_err-put_labelled-clause-text g c = Puts-stopped _ _ _ _ c.from_residual.ensures.0 (front-left _ _ _ _ (front-left _ _ _ _ c.in_err-put_labelled.ensures.text))

pub returns-in_err-put_labelled-2-clause-text : goal.returns-in_err-put_labelled-2-clause-text
returns-in_err-put_labelled-2-clause-text g c = Puts-stopped _ _ _ _ c.from_residual-in_err-put_labelled-2.ensures.0 (front-left _ _ _ _ (front-then _ _ _ _ _ c.in_ok-put_labelled.ensures.text c.in_err-put_labelled-2.ensures.text))

pub returns-clause-text : goal.returns-clause-text
returns-clause-text g c = Puts-last _ _ _ _ _ _ (Appends-then _ _ _ _ _ c.in_ok-put_labelled.ensures.text c.in_ok-put_labelled-2.ensures.text) c.put.ensures.text
