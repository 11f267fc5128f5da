-- Where the loop of a search stands, and what each part of an iteration makes of it.
use Rattle.std.specs.Prelude.{◌≡◌, ◌≢◌, ℕ, ◌==◌, if◌then◌else◌, ◌+◌, ◌<◌, ◌≤◌, Bool, true, false, ℤ, List, [], length, Option, Some, None}
use Rattle.fzn_meaning.specs.declared.model.Model.{Model}
use Rattle.fzn_meaning.specs.Solutions.{cut_of}
use Rattle.fzn_cert.specs.declared.step.Step.{Step}
use Rattle.fzn_trail.specs.declared.trail.Antecedent.TheVariants.{Clause}
use Rattle.fzn_trail.specs.declared.trail.ClauseId.{ClauseId}
use Rattle.fzn_clauses.specs.Watching.{held_by}
use Rattle.fzn_strategy.specs.declared.learn.Learn.{Learn}
use Rattle.fzn_learned.specs.Reasoned.{IsKnown, antecedent_clause}
use Rattle.fzn_learned.specs.Learned.{IsConflicting}
use Rattle.fzn_state.specs.State.{known_in}
use Rattle.fzn_state.specs.Certified.{count}
use Rattle.fzn_state.specs.Changes.{LeavesNothing}
use Rattle.fzn_engine.specs.Outcome.{IsEnded, HasRoomForMore}
use Rattle.fzn_printer.specs.declared.printer.Ending.{Ending}
use Rattle.fzn_printer.specs.declared.printer.Ending.TheVariants.{Complete, Unsatisfiable}
use Rattle.fzn_engine.specs.declared.limits.Limits.{Limits}
use Rattle.fzn_state.specs.declared.solver.Solver.{Solver}
use Rattle.fzn_state.specs.Search.{stock_of, IsAfter, tally_of, work_of}
use Rattle.fzn_domain.specs.Narrow.{possible_in}
use Rattle.fzn_clauses.specs.Held.{AllHeld}
use Rattle.fzn_search.specs.Fixed.{AllFixed}
use Rattle.fzn_propagator.specs.Constraints.{IsQuiet}

-- neither limit was passed
abbrev pub IsWithinLimits : Model → Limits → Solver → Type 0
IsWithinLimits model limits solver = (solver.search.nodes ≤ limits.nodes) × HasRoomForMore model.goal limits.solutions solver.found

-- all that the held clauses force was asserted, and none of them is false
pub record IsAtFixpoint (solver : Solver) : Type 0 where
  pub seen : solver.trail.mark ≡ length solver.trail.entries
  pub quiet : AllHeld (λ clause. possible_in solver.trail.sets clause ≢ []) (held_by solver.clauses)

-- each variable has one value, and these values make no held clause false and meet all constraints
pub record IsComplete (model : Model) (solver : Solver) : Type 0 where
  pub fixed : AllFixed solver.trail.sets
  pub quiet : AllHeld (λ clause. possible_in solver.trail.sets clause ≢ []) (held_by solver.clauses)
  pub meets : IsQuiet model solver.trail

-- the search goes on after these steps with less work
pub record IsBehind (model : Model) (limit : ℕ) (old new : Solver) (steps : List Step) : Type 0 where
  pub state : IsAfter model new steps
  pub less : work_of limit new < work_of limit old
  pub tally : tally_of new ≡ tally_of old

-- the search goes on with less work left, or nothing is left
abbrev pub Goes : Model → Solver → Solver → List Step → Bool → Type 0
Goes model old new steps true = (limit : ℕ) → IsBehind model limit old new steps
Goes model old new steps false = LeavesNothing model old new steps

-- this solution was written, and its cut is held under this number
pub record HasWritten (model : Model) (values : List ℤ) (old new : Solver) (steps : List Step) (id : ClauseId) : Type 0 where
  pub state : IsAfter model new steps
  pub known : IsKnown (known_in (stock_of new)) (Clause id)
  pub cut : antecedent_clause (known_in (stock_of new)) (Clause id) ≡ cut_of model values
  pub trail : new.trail ≡ old.trail
  pub tally : tally_of new ≡ record (tally_of old) { found = old.found + 1 }

-- a solution was written, whose cut has this number and is false
pub record IsRecorded (model : Model) (old new : Solver) (steps : List Step) (id : ClauseId) : Type 0 where
  pub state : IsAfter model new steps
  pub conflict : IsConflicting (known_in (stock_of new)) new.trail.sets (Clause id)
  pub trail : new.trail ≡ old.trail
  pub tally : tally_of new ≡ record (tally_of old) { found = old.found + 1 }

-- how a search ends that leaves nothing, with so many solutions
abbrev pub closed_after : ℕ → Ending
closed_after found = if found == 0 then Unsatisfiable else Complete

-- the search has ended where it does not go on
abbrev pub ending_of : Bool → ℕ → Option Ending
ending_of true found = None
ending_of false found = Some (closed_after found)

pub record IsOver (model : Model) (learn : Learn) (limits : Limits) (new : Solver) (steps : List Step) (ending : Ending) : Type 0 where
  pub ended : IsEnded model learn limits steps new.search.nodes ending
  pub found_is : new.found ≡ count model steps

pub record IsOngoing (model : Model) (limits : Limits) (old new : Solver) (steps : List Step) : Type 0 where
  pub state : IsAfter model new steps
  pub less : work_of limits.nodes new < work_of limits.nodes old
  pub within : IsWithinLimits model limits new
  pub learn : new.learn ≡ old.learn

abbrev pub Continues : Model → Limits → Solver → Solver → List Step → Option Ending → Type 0
Continues model limits old new steps None = IsOngoing model limits old new steps
Continues model limits old new steps (Some ending) = IsOver model old.learn limits new steps ending
