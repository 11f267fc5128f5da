use Rattle.std.proofs.Common.{◌≡◌}
use Rattle.fzn_values.specs.Term.{numbers_in}
use Rattle.fzn_meaning.specs.Solutions.{declared_sets}
use Rattle.fzn_weights.specs.Tables.{blank_weights}
use Rattle.fzn_weights.proofs.tables.blank_weights.Given as goal

abbrev pub invariant-loop-r : goal.invariant-loop-r
invariant-loop-r l = l.weights ≡ blank_weights (declared_sets l.vars) l.places (numbers_in l.rows) l.r
