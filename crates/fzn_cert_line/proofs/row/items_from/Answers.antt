use Rattle.std.proofs.Common.{◌∷◌}
use Rattle.fzn_cert.specs.Derivations.{items_among}
use Rattle.fzn_cert_line.specs.Rows.{letter_word, from_letter}
use Rattle.fzn_cert_line.proofs.RowLoops.{items-more, items-stop, items-end, items-shrink}
use Rattle.fzn_cert_line.proofs.row.items_from.Goals as goal

pub returns-in_default-2 : goal.returns-in_default-2
returns-in_default-2 c =
    items-stop c.loop-begun.items c.loop-begun.begun c.in-Some.letter c.loop-begun.words (items_among (letter_word c.args.first ∷ c.args.words)) c.in-Some.is (rw c.in_default-2.is at c.in_ok-item.ensures) c.loop-begun.invariant

pub loop-begun-smaller : goal.loop-begun-smaller
loop-begun-smaller c =
    items-shrink c.loop-begun.begun c.in-Some.letter c.loop-begun.words c.in-Some-2.item (from_letter c.in-Some-2.next c.read_item.new.words) c.in-Some.is (rw c.in-Some-2.is at c.in_ok-item.ensures)

pub loop-begun-preserved : goal.loop-begun-preserved
loop-begun-preserved c =
    rw c.in_ok-push.ensures.ok (items-more c.loop-begun.items c.loop-begun.begun c.in-Some.letter c.loop-begun.words c.in-Some-2.item (from_letter c.in-Some-2.next c.read_item.new.words)
    (items_among (letter_word c.args.first ∷ c.args.words)) c.in-Some.is (rw c.in-Some-2.is at c.in_ok-item.ensures) c.loop-begun.invariant)

pub returns : goal.returns
returns c = items-end c.loop-begun.items c.loop-begun.begun c.loop-begun.words (items_among (letter_word c.args.first ∷ c.args.words)) c.in_default.is c.loop-begun.invariant
