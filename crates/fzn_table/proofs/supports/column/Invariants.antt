use Rattle.std.proofs.Common.{◌≡◌, ℕ, ◌<◌, length}
use Rattle.fzn_values.specs.Term.{numbers_in}
use Rattle.fzn_table.specs.Chains.{column_at}
use Rattle.fzn_table.specs.Supports.{number_at}
use Rattle.fzn_table.proofs.supports.column.Given as goal

abbrev pub invariant-loop-r : goal.invariant-loop-r
invariant-loop-r l = record {
  len : length l.column.items ≡ l.r;
  each : (s : ℕ) → s < l.r → column_at l.column.items s ≡ number_at l.places (numbers_in l.rows) s l.p;
}
