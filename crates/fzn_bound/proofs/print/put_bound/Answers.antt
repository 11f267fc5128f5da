use Rattle.fzn_streams.proofs.CallerLemmas.{Appends-then, front-left, front-then, Puts-last, Puts-stopped}
use Rattle.fzn_bound.proofs.print.put_bound.Goals as goal

pub returns-in_err-put-clause-text : goal.returns-in_err-put-clause-text
returns-in_err-put-clause-text g c = rw (← c.side_of.ensures) (Puts-stopped _ _ _ _ c.from_residual.ensures.0 (front-left _ _ _ _ (front-left _ _ _ _ c.in_err-put.ensures.text)))

pub returns-in_err-put_integer-clause-text : goal.returns-in_err-put_integer-clause-text
returns-in_err-put_integer-clause-text g c = rw (← c.side_of.ensures) (Puts-stopped _ _ _ _ c.from_residual-in_err-put_integer.ensures.0 (front-left _ _ _ _ (front-then _ _ _ _ _ c.in_ok-put.ensures.text c.in_err-put_integer.ensures.text)))

pub returns-clause-text : goal.returns-clause-text
returns-clause-text g c = rw (← c.side_of.ensures) (Puts-last _ _ _ _ _ _ (Appends-then _ _ _ _ _ c.in_ok-put.ensures.text c.in_ok-put_integer.ensures.text) c.put-2.ensures.text)
