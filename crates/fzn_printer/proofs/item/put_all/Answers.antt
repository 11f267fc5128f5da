use Rattle.fzn_streams.proofs.CallerLemmas.{Appends-then, front-left, front-then, front-each, front-each-at, Puts-last, Puts-stopped}
use Rattle.fzn_printer.proofs.item.put_all.Goals as goal

pub returns-clause-text : goal.returns-clause-text
returns-clause-text g c = Puts-last _ _ _ _ _ _ c.in_ok-put_entry.ensures.text c.put_further.ensures.text
