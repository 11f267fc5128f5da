use Rattle.std.proofs.Common.{◌≡◌, ◌∷◌, length}
use Rattle.fzn_cert.specs.Derivations.{items_among}
use Rattle.fzn_cert_line.specs.Rows.{letter_word, from_letter}
use Rattle.fzn_cert_line.proofs.LoopLaws.{with_front}
use Rattle.fzn_cert_line.proofs.row.items_from.Given as goal

abbrev pub invariant-loop-begun : goal.invariant-loop-begun
invariant-loop-begun l = with_front l.items (items_among (from_letter l.begun l.words)) ≡ items_among (letter_word l.fn.first ∷ l.fn.words)

abbrev pub decreases-loop-begun : goal.decreases-loop-begun
decreases-loop-begun l = length (from_letter l.begun l.words)
