use Rattle.std.proofs.Common.{take}
use Rattle.std.specs.List.{All}
use Rattle.fzn_meaning.specs.Meaning.{Meets}
use Rattle.fzn_meaning.proofs.model.meets_all.Given as goal

abbrev pub invariant-loop-constraint : goal.invariant-loop-constraint
invariant-loop-constraint l = All (λ constraint. Meets constraint l.values) (take l.constraint-index l.constraints)
