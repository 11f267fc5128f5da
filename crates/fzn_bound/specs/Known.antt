-- What is known of the objective, when it is true, and how strong it has to be.
use Rattle.std.specs.Prelude.{◌≡◌, ◌≢◌, ◌⊎◌, ◌-◌, ◌<◌, Bool, true, false, ℤ, pos, ◌<ℤ◌, List, [], ◌∷◌, length, slice_index_or}
use Rattle.std.specs.List.{All}
use Rattle.fzn_domain.specs.declared.literal.Lit.{Lit}
use Rattle.fzn_domain.specs.declared.literal.VarId.{VarId}
use Rattle.fzn_domain.specs.IntSet.{contains}
use Rattle.fzn_domain.specs.Literal.{is_true_at}
use Rattle.fzn_domain.specs.Narrow.{set_of, value_of}
use Rattle.fzn_meaning.specs.declared.model.Goal.{Goal}
use Rattle.fzn_meaning.specs.declared.model.Goal.TheVariants.{Satisfy, Minimize, Maximize}
use Rattle.fzn_meaning.specs.declared.model.Model.{Model}
use Rattle.fzn_meaning.specs.declared.model.Var.{Var}
use Rattle.fzn_meaning.specs.Solutions.{declared_sets, IsSolution}
use Rattle.fzn_cert.specs.declared.step.Step.{Step}
use Rattle.fzn_cert.specs.declared.step.Step.TheVariants.{Infer, Resolve}
use Rattle.fzn_bound.specs.declared.known.Known.{Known}
use Rattle.fzn_bound.specs.declared.known.Known.TheVariants.{NoObjective, NoSolution, Unsolved, Open, Closed}

-- ---- values of the objective

-- one value of the objective is less, or greater, than another; never so in satisfaction
abbrev pub IsBetterValue : Goal → ℤ → ℤ → Type 0
IsBetterValue Satisfy x y = ⊥
IsBetterValue (Minimize var) x y = x <ℤ y
IsBetterValue (Maximize var) x y = y <ℤ x

-- what an assignment gives the objective
abbrev pub objective_in : Goal → List ℤ → ℤ
objective_in Satisfy a = pos 0
objective_in (Minimize var) a = value_of a var
objective_in (Maximize var) a = value_of a var

-- ---- what is true

-- no solution has a better objective than this
abbrev pub IsBoundOf : Model → ℤ → Type 0
IsBoundOf model bound = (a : List ℤ) → IsSolution model a → IsBetterValue model.goal (objective_in model.goal a) bound → ⊥

-- the last of the solutions gives the objective this value
abbrev pub IsBest : Goal → List (List ℤ) → ℤ → Type 0
IsBest goal found best = (0 < length found) × (best ≡ objective_in goal (slice_index_or found (length found - 1) []))

-- What is known is true of the model, where these solutions were found and the answer is closed or open. A best value is one that a solution
-- has, so no bound is past it.
abbrev pub IsTrueOf : Model → List (List ℤ) → Bool → Known → Type 0
IsTrueOf model found closed NoObjective = model.goal ≡ Satisfy
IsTrueOf model found closed NoSolution = (model.goal ≢ Satisfy) × ((a : List ℤ) → IsSolution model a → ⊥)
IsTrueOf model found closed (Unsolved bound) = (model.goal ≢ Satisfy) × (closed ≡ false) × (found ≡ []) × IsBoundOf model bound
IsTrueOf model found closed (Open best bound) = (model.goal ≢ Satisfy) × (closed ≡ false) × IsBest model.goal found best × IsBoundOf model bound
IsTrueOf model found closed (Closed best) = (model.goal ≢ Satisfy) × (closed ≡ true) × IsBest model.goal found best × IsBoundOf model best

-- ---- which bound it is

-- none of these values is better
abbrev pub NoneBetter : Goal → (ℤ → Type 0) → ℤ → Type 0
NoneBetter goal IsValue bound = (x : ℤ) → IsValue x → IsBetterValue goal x bound → ⊥

-- a value of the objective's declared set
abbrev pub IsDeclared : Goal → List Var → ℤ → Type 0
IsDeclared Satisfy vars x = ⊥
IsDeclared (Minimize var) vars x = contains (set_of (declared_sets vars) var) x ≡ true
IsDeclared (Maximize var) vars x = contains (set_of (declared_sets vars) var) x ≡ true

abbrev pub IsObjective : Goal → VarId → Type 0
IsObjective Satisfy var = ⊥
IsObjective (Minimize objective) var = var ≡ objective
IsObjective (Maximize objective) var = var ≡ objective

-- the clause has one literal, on the objective, and no value at which it is true is better
abbrev pub SaysBound : Goal → List Lit → ℤ → Type 0
SaysBound goal (lit ∷ []) bound = IsObjective goal lit.var × NoneBetter goal (λ x. is_true_at lit x ≡ true) bound
SaysBound goal _ bound = ⊥

-- the clause that a step gives
abbrev pub clause_given : Step → List Lit
clause_given (Infer it) = it.clause
clause_given (Resolve clause ids) = clause
clause_given _ = []

-- no bound that is said so is stronger
abbrev pub IsAsStrong : Goal → (ℤ → Type 0) → ℤ → Type 0
IsAsStrong goal IsSaid bound = (k : ℤ) → IsSaid k → IsBetterValue goal bound k → ⊥

-- as strong as the declared set gives it, and each of the steps
abbrev pub IsStrongest : Model → List Step → ℤ → Type 0
IsStrongest model steps bound =
    IsAsStrong model.goal (NoneBetter model.goal (IsDeclared model.goal model.vars)) bound
    × All (λ step. IsAsStrong model.goal (SaysBound model.goal (clause_given step)) bound) steps

-- the bound is the strongest that the declared set and the steps give, or the best value where that is weaker
abbrev pub IsStrong : Model → List Step → Known → Type 0
IsStrong model steps (Unsolved bound) = IsStrongest model steps bound
IsStrong model steps (Open best bound) = (bound ≡ best) ⊎ IsStrongest model steps bound
IsStrong model steps _ = Unit {0}
