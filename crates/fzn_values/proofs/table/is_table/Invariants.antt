use Rattle.std.proofs.Common.{◌≡◌, ℕ, ◌<◌, length}
use Rattle.fzn_values.specs.Table.{row_at}
use Rattle.fzn_values.specs.Term.{numbers_in}
use Rattle.fzn_values.proofs.table.is_table.Given as goal

abbrev pub invariant-loop-row : goal.invariant-loop-row
invariant-loop-row l = (k : ℕ) → k < l.row → row_at (length l.places) (numbers_in l.rows) k ≡ l.places → ⊥
