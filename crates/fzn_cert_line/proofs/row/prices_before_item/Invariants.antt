use Rattle.fzn_cert_line.proofs.RowLoops.{IsPricing}
use Rattle.fzn_cert_line.proofs.row.prices_before_item.Given as goal

abbrev pub invariant-loop-word : goal.invariant-loop-word
invariant-loop-word l = IsPricing l.prices l.words l.initial.words
