use Rattle.std.proofs.Common.{◌≡◌}
use Rattle.fzn_cert.specs.Words.{items_before_mark}
use Rattle.fzn_cert_line.proofs.LoopLaws.{before_rest}
use Rattle.fzn_cert_line.proofs.words.items_before_mark.Given as goal

abbrev pub invariant-loop-word : goal.invariant-loop-word
invariant-loop-word g l = before_rest l.items (items_before_mark g.T.Item.item_of l.words) ≡ items_before_mark g.T.Item.item_of l.initial.words
