-- The line that says what is known of the objective.
use Rattle.std.specs.Prelude.{ℕ, ◌-◌, ℤ, List, [], ◌∷◌, ◌++◌, codes, Option, Some, None, slice_get}
use Rattle.std.specs.Fmt.{signed_decimal}
use Rattle.fzn_meaning.specs.declared.model.Goal.{Goal}
use Rattle.fzn_meaning.specs.declared.model.Goal.TheVariants.{Satisfy, Minimize, Maximize}
use Rattle.fzn_meaning.specs.declared.model.Model.{Model}
use Rattle.fzn_meaning.specs.declared.model.Var.{Var}
use Rattle.fzn_bound.specs.declared.known.Known.{Known}
use Rattle.fzn_bound.specs.declared.known.Known.TheVariants.{NoObjective, NoSolution, Unsolved, Open, Closed}

abbrev pub name_at : Option Var → List ℕ
name_at None = []
name_at (Some var) = var.name

-- the name of the objective, as the file spells it
abbrev pub name_for : Goal → List Var → List ℕ
name_for Satisfy vars = []
name_for (Minimize var) vars = name_at (slice_get vars (var.0 - 1))
name_for (Maximize var) vars = name_at (slice_get vars (var.0 - 1))

abbrev pub objective_name : Model → List ℕ
objective_name model = name_for model.goal model.vars

abbrev pub side_of : Goal → List ℕ
side_of Satisfy = codes "at least "
side_of (Minimize var) = codes "at least "
side_of (Maximize var) = codes "at most "

abbrev pub best_text : List ℕ → ℤ → List ℕ
best_text name best = name ++ codes " = " ++ signed_decimal best ++ codes ", "

abbrev pub bound_text : Goal → ℤ → List ℕ
bound_text goal bound = side_of goal ++ signed_decimal bound ++ 10 ∷ []

abbrev pub bound_line : Model → Known → List ℕ
bound_line model NoObjective = codes "no objective" ++ 10 ∷ []
bound_line model NoSolution = codes "no solution" ++ 10 ∷ []
bound_line model (Unsolved bound) = bound_text model.goal bound
bound_line model (Open best bound) = best_text (objective_name model) best ++ bound_text model.goal bound
bound_line model (Closed best) = best_text (objective_name model) best ++ (codes "the best" ++ 10 ∷ [])
