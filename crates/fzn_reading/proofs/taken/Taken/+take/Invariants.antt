use Rattle.std.specs.Prelude.{◌≡◌}
use Rattle.fzn_reading.specs.Taken.{variable_count, StaysOver}
use Rattle.fzn_reading.proofs.taken.Taken.+take.Given as goal

abbrev pub decreases-take : goal.decreases-take
decreases-take l = l.levels

abbrev pub invariant-loop-term : goal.invariant-loop-term
invariant-loop-term l = StaysOver l.initial.self l.self × (variable_count l.self ≡ variable_count l.initial.self)
