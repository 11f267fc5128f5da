use Rattle.std.proofs.Common.{arith}
use Rattle.fzn_core.specs.Listing.{number_line}
use Rattle.fzn_streams.proofs.CallerLemmas.{front-each, Puts-stopped}
use Rattle.fzn_core.proofs.print.put_lines.Goals as goal

pub returns-in_err-put_number_line-clause-text : goal.returns-in_err-put_number_line-clause-text
returns-in_err-put_number_line-clause-text g c =
    Puts-stopped _ _ _ _ c.from_residual.ensures.0
    (front-each (number_line c.args.bytes.now c.args.sources.now) _ _ _ c.args.numbers.now c.loop-number.number-index 0 (omega arith) c.loop-number.invariant.text c.in_err-put_number_line.ensures.text)
