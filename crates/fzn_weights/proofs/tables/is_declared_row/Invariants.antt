use Rattle.std.proofs.Common.{◌≡◌, ◌+◌, drop}
use Rattle.fzn_values.specs.Term.{numbers_in}
use Rattle.fzn_meaning.specs.Solutions.{declared_sets}
use Rattle.fzn_weights.specs.Tables.{is_declared_row}
use Rattle.fzn_weights.proofs.tables.is_declared_row.Given as goal

abbrev pub invariant-loop-i : goal.invariant-loop-i
invariant-loop-i l = is_declared_row (declared_sets l.vars) l.places (drop l.start (numbers_in l.rows)) ≡ is_declared_row (declared_sets l.vars) (drop l.i l.places) (drop (l.start + l.i) (numbers_in l.rows))
