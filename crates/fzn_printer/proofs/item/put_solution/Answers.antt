use Rattle.fzn_streams.proofs.CallerLemmas.{Appends-then, front-left, front-then, front-each, front-each-at, Puts-last, Puts-stopped}
use Rattle.fzn_printer.proofs.item.put_solution.Goals as goal

pub returns-in_err-put_items-clause-text : goal.returns-in_err-put_items-clause-text
returns-in_err-put_items-clause-text g c = rw (← c.as_slice.ensures) (Puts-stopped _ _ _ _ c.from_residual.ensures.0 (front-left _ _ _ _ c.in_err-put_items.ensures.text))

pub returns-clause-text : goal.returns-clause-text
returns-clause-text g c = rw (← c.as_slice.ensures) (Puts-last _ _ _ _ _ _ c.in_ok-put_items.ensures.text c.put.ensures.text)
