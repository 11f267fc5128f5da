use Rattle.std.proofs.Common.{◌≡◌, ℕ, ◌+◌, ◌<◌, get_or, pos}
use Rattle.fzn_values.specs.declared.term.Term.TheVariants.{Constant}
use Rattle.fzn_values.specs.Term.{number_in}
use Rattle.fzn_values.proofs.table.is_row.Given as goal

abbrev pub invariant-loop-place : goal.invariant-loop-place
invariant-loop-place l = (k : ℕ) → k < l.place → number_in (get_or l.rows (l.start + k) (Constant (pos 0))) ≡ get_or l.places k (pos 0)
