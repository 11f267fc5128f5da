use Rattle.std.specs.Prelude.{◌≡◌}
use Rattle.std.specs.List.{All}
use Rattle.fzn_reading.specs.Over.{IsAnnotationOver}
use Rattle.fzn_reading.specs.Taken.{variable_count}
use Rattle.fzn_reading.proofs.taken.annotations_of.Given as goal

abbrev pub invariant-loop-ann : goal.invariant-loop-ann
invariant-loop-ann l = (variable_count l.taken ≡ l.count) × All (IsAnnotationOver l.count) l.taken.annotations.items
