-- Which propagators stand for a model. What is said of one propagator, whichever kind it is of, is given: its number, the constraints
-- that it is for, and the declared sets that it fits.
use Rattle.std.specs.Prelude.{◌≡◌, ℕ, ◌+◌, ◌<◌, ◌≤◌, List, length, slice_index_or}
use Rattle.std.specs.List.{All}
use Rattle.fzn_domain.specs.IntSet.{IntSet}
use Rattle.fzn_meaning.specs.declared.constraint.Constraint.{Constraint}
use Rattle.fzn_meaning.specs.declared.model.Model.{Model}
use Rattle.fzn_meaning.specs.Meaning.{HasBooleanSets, longest}
use Rattle.fzn_meaning.specs.Solutions.{declared_sets}
use Rattle.fzn_propagator.specs.Constraints.{IsInferenceJustified}
use Rattle.fzn_propagators.specs.declared.propagators.Propagators.{Propagators}

-- the propagator of the model's constraint with this number
pub record IsPropagatorOf {P : Type 0} (number_of : P → ℕ) (IsFor : P → Constraint → Type 0) (Fits : P → List IntSet → Type 0) (model : Model) (number : ℕ) (constraint : Constraint) (propagator : P) : Type 0 where
  pub numbered : number_of propagator ≡ number
  pub is_for : IsFor propagator constraint
  pub fits : Fits propagator (declared_sets model.vars)

-- a propagator for each constraint, which are numbered from 1
pub record AreFor {P : Type 0} (number_of : P → ℕ) (IsFor : P → Constraint → Type 0) (Fits : P → List IntSet → Type 0) (propagators : List P) (model : Model) : Type 0 where
  pub one_each : length propagators ≡ length model.constraints
  pub each :
      (k : ℕ) (constraint : Constraint) (propagator : P) → k < length model.constraints
      → IsPropagatorOf number_of IsFor Fits model (k + 1) (slice_index_or model.constraints k constraint) (slice_index_or propagators k propagator)
  -- what reading a file ensures of its model
  pub booleans : All (HasBooleanSets (declared_sets model.vars)) model.constraints
  pub few_vars : length model.vars ≤ longest
  pub few_constraints : length model.constraints ≤ longest

-- those propagators of a search, whichever of them are to be asked next, and what they found that is not handed over yet
pub record StandFor {P : Type 0} (number_of : P → ℕ) (IsFor : P → Constraint → Type 0) (Fits : P → List IntSet → Type 0) (propagators : Propagators P) (model : Model) : Type 0 where
  pub items : AreFor number_of IsFor Fits propagators.items model
  pub found : All (IsInferenceJustified model) propagators.found
