use Rattle.fzn_streams.proofs.CallerLemmas.{front-left, Puts-last, Puts-stopped}
use Rattle.fzn_core.proofs.print.put_core.Goals as goal

pub returns-in_err-put_lines-clause-text : goal.returns-in_err-put_lines-clause-text
returns-in_err-put_lines-clause-text g c = Puts-stopped _ _ _ _ c.from_residual.ensures.0 (front-left _ _ _ _ c.in_err-put_lines.ensures.text)

pub returns-clause-text : goal.returns-clause-text
returns-clause-text g c = Puts-last _ _ _ _ _ _ c.in_ok-put_lines.ensures.text c.put_count.ensures.text
