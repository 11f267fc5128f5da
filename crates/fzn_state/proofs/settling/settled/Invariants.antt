use Rattle.fzn_meaning.specs.Solutions.{declared_sets}
use Rattle.fzn_trail.specs.Levels.{NoneEmpty, fresh}
use Rattle.fzn_clauses.specs.Propagation.{IsPropagated}
use Rattle.fzn_clauses.specs.Watching.{held_by, IsWatching}
use Rattle.fzn_state.proofs.settling.settled.Given as goal

-- what was asserted so far was forced
abbrev pub invariant-loop-place : goal.invariant-loop-place
invariant-loop-place l = record {
  propagated : IsPropagated (held_by l.clauses) (fresh (declared_sets l.vars)) l.settled;
  watching : IsWatching l.clauses l.settled;
  filled : NoneEmpty l.settled.sets;
}

abbrev pub decreases-loop-place : goal.decreases-loop-place
decreases-loop-place l = l.place
