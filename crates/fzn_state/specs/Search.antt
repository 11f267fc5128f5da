-- The state of a search as the code keeps it, and what its functions have in common.
use Rattle.std.specs.Prelude.{◌≡◌, ℕ, ◌+◌, ◌-◌, ◌*◌, ◌^◌, ◌<◌, ◌≤◌, List, length}
use Rattle.fzn_meaning.specs.declared.model.Model.{Model}
use Rattle.fzn_meaning.specs.Solutions.{declared_sets}
use Rattle.fzn_cert.specs.declared.step.Step.{Step}
use Rattle.fzn_meaning.specs.WellFormed.{IsWellFormed}
use Rattle.fzn_cert.specs.Accepted.{AllAccepted}
use Rattle.fzn_sets.specs.Sets.{Narrowed, start}
use Rattle.fzn_trail.specs.Levels.{Levels}
use Rattle.fzn_clauses.specs.Watching.{held_by, IsWatching}
use Rattle.fzn_strategy.specs.declared.learn.Learn.{Learn}
use Rattle.fzn_state.specs.Volume.{slack}
use Rattle.fzn_state.specs.State.{Stock, StateOf}
use Rattle.fzn_state.specs.Certified.{count}
use Rattle.fzn_state.specs.declared.solver.Solver.{Solver}

-- the clauses that a search has
abbrev pub stock_of : Solver → Stock
stock_of solver = record { held = held_by solver.clauses; numbers = solver.numbers; cuts = solver.cuts; stack = solver.inferences; written = solver.written; alive = solver.alive }

-- the sets on which learned clauses are tested, and what is counted, are in order after these steps
pub record IsTestedInOrder (model : Model) (tested : Narrowed) (variables solutions number : ℕ) (steps : List Step) : Type 0 where
  pub scratch : tested ≡ start (declared_sets model.vars)
  pub vars : variables ≡ length model.vars
  pub found_is : solutions ≡ count model steps
  pub found_few : solutions ≤ length steps
  pub steps_are : number ≡ length steps
  pub few_steps : length steps < 10 ^ 18

-- a search after these steps
pub record IsAfter (model : Model) (solver : Solver) (steps : List Step) : Type 0 where
  pub state : StateOf model solver.learn (stock_of solver) steps solver.trail solver.search.nodes
  -- the clauses are watched on the trail
  pub watching : IsWatching solver.clauses solver.trail
  pub order : IsTestedInOrder model solver.scratch solver.search.vars solver.found solver.steps steps
  pub open order use *

-- what each function of a search asks of the model, the search and the steps that it has written, and that the taker of steps is as it
-- should be
pub record IsSearchReady (model : Model) (solver : Solver) (steps : List Step) (Kept : Type 0) : Type 0 where
  pub good : IsWellFormed model
  pub state : IsAfter model solver steps
  pub kept : Kept

-- what each leaves, whether it could go on or not: accepted steps, and the taker of steps as it should be, where it began
pub record IsLeftBySearch (model : Model) (steps : List Step) (Kept Same : Type 0) : Type 0 where
  pub accepted : AllAccepted model steps
  pub kept : Kept
  pub same : Same

-- the decisions and the solutions so far, and the way of learning
pub record Tally : Type 0 where
  pub nodes : ℕ
  pub found : ℕ
  pub learn : Learn

abbrev pub tally_of : Solver → Tally
tally_of solver = record { nodes = solver.search.nodes; found = solver.found; learn = solver.learn }

-- what is left to do: decisions and levels first, then values
abbrev pub work : ℕ → ℕ → Levels → ℕ
work limit nodes trail = ((limit - nodes) + length trail.saved) * (slack trail.declared + 1) + slack trail.sets

abbrev pub work_of : ℕ → Solver → ℕ
work_of limit solver = work limit solver.search.nodes solver.trail
