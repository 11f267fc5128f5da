-- What a search has written at any moment: accepted steps, learned clauses that are new, and decisions that the conflicts bound.
use Rattle.std.specs.Prelude.{◌≡◌, ℕ, ◌+◌, ◌*◌, ◌<◌, ◌≤◌, true, List, [], length}
use Rattle.fzn_meaning.specs.declared.model.Model.{Model}
use Rattle.fzn_meaning.specs.Solutions.{declared_sets}
use Rattle.fzn_cert.specs.declared.step.Step.{Step}
use Rattle.fzn_cert.specs.Accepted.{AllAccepted, past_after}
use Rattle.fzn_strategy.specs.declared.learn.Learn.{Learn}
use Rattle.fzn_strategy.specs.declared.learn.Learn.TheVariants.{Plain}
use Rattle.fzn_state.specs.Volume.{volume, slack_of_sets}
use Rattle.fzn_state.specs.Resolved.{resolved, FreshAfter}

-- the solutions among the steps
abbrev pub count : Model → List Step → ℕ
count model steps = length (past_after model steps).solutions

-- some step gave the empty clause
abbrev pub HasEmptyClause : Model → List Step → Type 0
HasEmptyClause model steps = (past_after model steps).refuted ≡ true

-- what a run has written at any moment
pub record IsRunCertified (model : Model) (learn : Learn) (steps : List Step) (nodes : ℕ) : Type 0 where
  pub accepted : AllAccepted model steps
  -- in plain learning each learned clause is false at an assignment at which those before it are true
  pub fresh : learn ≡ Plain → 0 < volume (declared_sets model.vars) → FreshAfter (declared_sets model.vars) [] (resolved steps)
  -- the decisions are bounded by the conflicts
  pub nodes_by_conflicts : nodes ≤ (length (resolved steps) + 1) * slack_of_sets (declared_sets model.vars)
