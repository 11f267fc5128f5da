use Rattle.fzn_streams.proofs.CallerLemmas.{front-left, Puts-last, Puts-stopped}
use Rattle.fzn_bound.proofs.print.put_open.Goals as goal

pub returns-in_err-put_best-clause-text : goal.returns-in_err-put_best-clause-text
returns-in_err-put_best-clause-text g c = rw (← c.name_of.ensures) (Puts-stopped _ _ _ _ c.from_residual.ensures.0 (front-left _ _ _ _ c.in_err-put_best.ensures.text))

pub returns-clause-text : goal.returns-clause-text
returns-clause-text g c = rw (← c.name_of.ensures) (Puts-last _ _ _ _ _ _ c.in_ok-put_best.ensures.text c.put_bound.ensures.text)
