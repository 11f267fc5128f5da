use Rattle.std.proofs.Common.{take}
use Rattle.std.specs.List.{All}
use Rattle.fzn_learned.specs.Reasoned.{known_of, IsKnown}
use Rattle.fzn_learned.proofs.trial.are_known.Given as goal

abbrev pub invariant-loop-antecedent : goal.invariant-loop-antecedent
invariant-loop-antecedent l = All (IsKnown (known_of l.clauses l.inferences)) (take l.antecedent-index l.antecedents)
