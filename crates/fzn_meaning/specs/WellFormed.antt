-- What reading a file ensures of its model.
use Rattle.std.specs.Prelude.{ℕ, ◌<◌, ◌≤◌, length}
use Rattle.std.specs.List.{All, AllPairs}
use Rattle.fzn_domain.specs.declared.literal.VarId.{VarId}
use Rattle.fzn_domain.specs.Limits.{IsLimited}
use Rattle.fzn_domain.specs.Narrow.{IsVariable}
use Rattle.fzn_meaning.specs.declared.model.Goal.{Goal}
use Rattle.fzn_meaning.specs.declared.model.Goal.TheVariants.{Satisfy, Minimize, Maximize}
use Rattle.fzn_meaning.specs.declared.model.OutputItem.{OutputItem}
use Rattle.fzn_meaning.specs.declared.model.OutputItem.TheVariants.{Single, Array}
use Rattle.fzn_meaning.specs.declared.model.Model.{Model}
use Rattle.fzn_values.specs.Term.{IsTerm}
use Rattle.fzn_meaning.specs.Meaning.{HasBooleanSets, longest, IsWellFormedConstraint}
use Rattle.fzn_meaning.specs.Solutions.{declared_sets}

abbrev pub IsGoal : ℕ → Goal → Type 0
IsGoal count Satisfy = Unit {0}
IsGoal count (Minimize var) = IsVariable count var
IsGoal count (Maximize var) = IsVariable count var

abbrev pub IsOutputItem : ℕ → OutputItem → Type 0
IsOutputItem count (Single name kind var) = IsVariable count var
IsOutputItem count (Array name kind ranges entries) = All (IsTerm count) entries

pub record IsWellFormed (model : Model) : Type 0 where
  pub constraints : All (IsWellFormedConstraint (length model.vars)) model.constraints
  pub booleans : All (HasBooleanSets (declared_sets model.vars)) model.constraints
  pub goal : IsGoal (length model.vars) model.goal
  pub outputs : All (IsVariable (length model.vars)) model.outputs
  -- each output variable once, in rising order
  pub rising : AllPairs (λ (a b : VarId). a.0 < b.0) model.outputs
  pub shown : All (IsOutputItem (length model.vars)) model.shown
  pub values : All IsLimited (declared_sets model.vars)
  pub few_vars : length model.vars ≤ longest
  pub few_constraints : length model.constraints ≤ longest
