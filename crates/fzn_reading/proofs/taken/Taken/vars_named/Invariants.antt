use Rattle.std.specs.List.{All}
use Rattle.fzn_domain.specs.Narrow.{IsVariable}
use Rattle.fzn_reading.specs.Taken.{variable_count, KeepsAnnotations}
use Rattle.fzn_reading.proofs.taken.Taken.vars_named.Given as goal

abbrev pub invariant-loop-term : goal.invariant-loop-term
invariant-loop-term l = All (IsVariable (variable_count l.initial.self)) l.vars × KeepsAnnotations l.initial.self l.self
