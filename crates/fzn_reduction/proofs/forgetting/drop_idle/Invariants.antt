use Rattle.fzn_trail.specs.Levels.{Levels}
use Rattle.fzn_reduction.specs.Forgetting.{AreFlagged, HasForgotten}
use Rattle.fzn_reduction.proofs.forgetting.drop_idle.Given as goal

-- of what was forgotten so far nothing was a reason or a cut
abbrev pub invariant-loop-id : goal.invariant-loop-id
invariant-loop-id l = (trail : Levels) → AreFlagged l.are_reasons trail → HasForgotten trail l.cuts l.fn.clauses l.clauses
