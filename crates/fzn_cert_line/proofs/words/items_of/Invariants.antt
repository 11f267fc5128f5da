use Rattle.std.proofs.Common.{◌≡◌}
use Rattle.fzn_cert.specs.Words.{items_of}
use Rattle.fzn_cert_line.proofs.LoopLaws.{with_front}
use Rattle.fzn_cert_line.proofs.words.items_of.Given as goal

abbrev pub invariant-loop-word : goal.invariant-loop-word
invariant-loop-word g l = with_front l.items (items_of g.T.Item.item_of l.words) ≡ items_of g.T.Item.item_of l.initial.words
