use Rattle.fzn_clauses.specs.Kept.{Sweeps}
use Rattle.fzn_clauses.proofs.clauses.Clauses.sweep.Given as goal

abbrev pub invariant-loop-key : goal.invariant-loop-key
invariant-loop-key l = Sweeps l.initial.self l.self
