use Rattle.fzn_bound.proofs.PrintLemmas.{Puts-flushed}
use Rattle.fzn_bound.proofs.print.put_line.Goals as goal

pub returns-clause-text : goal.returns-clause-text
returns-clause-text g c = Puts-flushed _ _ _ _ _ c.in_ok-put_known.ensures.text c.flush_all.ensures.kept
