use Rattle.fzn_streams.proofs.CallerLemmas.{Appends-then, front-left, front-then, front-each, Puts-last, Puts-stopped}
use Rattle.fzn_printer.proofs.item.put_list.Goals as goal

pub returns-in_err-put_entries-clause-text : goal.returns-in_err-put_entries-clause-text
returns-in_err-put_entries-clause-text g c = Puts-stopped _ _ _ _ c.from_residual-in_err-put_entries.ensures.0 (front-left _ _ _ _ (front-then _ _ _ _ _ c.in_ok-put.ensures.text c.in_err-put_entries.ensures.text))

pub returns-clause-text : goal.returns-clause-text
returns-clause-text g c = Puts-last _ _ _ _ _ _ (Appends-then _ _ _ _ _ c.in_ok-put.ensures.text c.in_ok-put_entries.ensures.text) c.put-2.ensures.text
