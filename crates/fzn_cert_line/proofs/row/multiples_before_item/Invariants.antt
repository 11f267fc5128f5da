use Rattle.fzn_cert_line.proofs.RowLoops.{IsReading}
use Rattle.fzn_cert_line.proofs.row.multiples_before_item.Given as goal

abbrev pub invariant-loop-word : goal.invariant-loop-word
invariant-loop-word l = IsReading l.multiples l.words l.initial.words
