use Rattle.std.proofs.Common.{arith}
use Rattle.fzn_streams.proofs.CallerLemmas.{Appends-then, front-left, front-then, front-each, Puts-last, Puts-stopped}
use Rattle.fzn_printer.proofs.item.put_ranges.Goals as goal

pub returns-in_err-put_indices-clause-text : goal.returns-in_err-put_indices-clause-text
returns-in_err-put_indices-clause-text g c = Puts-stopped _ _ _ _ c.from_residual.ensures.0 (front-each _ _ _ _ c.args.ranges.now c.loop-range.range-index _ (omega arith) c.loop-range.invariant.text c.in_err-put_indices.ensures.text)
