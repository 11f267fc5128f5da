use Rattle.std.proofs.Common.{◌≡◌, ◌*◌, length, drop}
use Rattle.fzn_meaning.specs.Separable.{row_weight}
use Rattle.fzn_meaning.proofs.row.row_weight.Given as goal

abbrev pub invariant-loop-r : goal.invariant-loop-r
invariant-loop-r l = row_weight l.places l.table.rows l.table.weights ≡ row_weight l.places (drop (l.r * length l.places) l.table.rows) (drop l.r l.table.weights)
