-- What a solution that somebody else has found makes of a search.
use Rattle.std.specs.Prelude.{◌≡◌, true, ℤ, Bool, List, Option, Some, None}
use Rattle.fzn_domain.specs.Narrow.{is_clause_true}
use Rattle.fzn_meaning.specs.declared.model.Model.{Model}
use Rattle.fzn_cert.specs.declared.step.Step.{Step}
use Rattle.fzn_trail.specs.declared.trail.ClauseId.{ClauseId}
use Rattle.fzn_clauses.specs.Held.{Held, IsHeld, clause_of}
use Rattle.fzn_reduction.specs.Forgetting.{is_cut}
use Rattle.fzn_printer.specs.declared.printer.Ending.{Ending}
use Rattle.fzn_engine.specs.declared.limits.Limits.{Limits}
use Rattle.fzn_state.specs.declared.solver.Solver.{Solver}
use Rattle.fzn_engine.specs.Loop.{IsOver, IsWithinLimits}
use Rattle.fzn_state.specs.Search.{IsAfter}

-- the values make each cut true that is held
abbrev pub AreCutsTrue : Held → List Bool → List ℤ → Type 0
AreCutsTrue held cuts values = (id : ClauseId) → is_cut cuts id ≡ true → IsHeld held id → is_clause_true values (clause_of held id) ≡ true

-- there may be a solution more, and the trail and the decisions are as they were
pub record HasTakenHints (model : Model) (limits : Limits) (old new : Solver) (steps : List Step) : Type 0 where
  pub state : IsAfter model new steps
  pub trail : new.trail ≡ old.trail
  pub nodes : new.search.nodes ≡ old.search.nodes
  pub learn : new.learn ≡ old.learn
  pub within : IsWithinLimits model limits new

-- the search goes on so, or has as many solutions as are wanted
abbrev pub TakesHints : Model → Limits → Solver → Solver → List Step → Option Ending → Type 0
TakesHints model limits old new steps None = HasTakenHints model limits old new steps
TakesHints model limits old new steps (Some ending) = IsOver model old.learn limits new steps ending
