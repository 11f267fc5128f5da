use Rattle.std.proofs.Common.{◌≡◌, List, Option, subst}
use Rattle.std.specs.Prelude.{IfOk}
use Rattle.fzn_row.specs.declared.item.RowItem.{RowItem}
use Rattle.fzn_cert_line.proofs.RowLoops.{items-first}
use Rattle.fzn_cert_line.proofs.row.row_items_of.Goals as goal

pub returns-in-Some-letter_of : goal.returns-in-Some-letter_of
returns-in-Some-letter_of c =
    subst (λ (read : Option (List RowItem)). IfOk c.items_from.result (λ found. found ≡ read))
    (items-first c.args.words c.in-Some.word.now c.next.new.self c.in-Some-letter_of.letter c.in-Some.ensures.steps c.in-Some-letter_of.ensures.some) c.items_from.ensures
