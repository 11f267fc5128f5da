use Rattle.std.proofs.Common.{arith}
use Rattle.fzn_printer.specs.Shown.{item_text}
use Rattle.fzn_streams.proofs.CallerLemmas.{Appends-then, front-left, front-then, front-each, front-each-at, Puts-last, Puts-stopped}
use Rattle.fzn_printer.proofs.item.put_items.Goals as goal

pub returns-in_err-put_item-clause-text : goal.returns-in_err-put_item-clause-text
returns-in_err-put_item-clause-text g c = Puts-stopped _ _ _ _ c.from_residual.ensures.0 (front-each-at (item_text c.args.values.now) _ _ _ c.args.items.now c.loop-item.item-index c.item-item.result (omega arith) c.item-item.is c.loop-item.invariant.text c.in_err-put_item.ensures.text)
