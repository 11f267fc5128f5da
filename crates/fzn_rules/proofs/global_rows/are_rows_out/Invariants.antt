use Rattle.std.proofs.Common.{ℕ, ◌<◌}
use Rattle.fzn_values.specs.Term.{numbers_in}
use Rattle.fzn_rules.specs.GlobalRows.{IsRowOut}
use Rattle.fzn_rules.proofs.global_rows.are_rows_out.Given as goal

abbrev pub invariant-loop-r : goal.invariant-loop-r
invariant-loop-r l = (k : ℕ) → k < l.r → IsRowOut l.sets.present l.places (numbers_in l.rows) k
