-- Solutions of a model, which is better, and lists of solutions.
use Rattle.std.specs.Prelude.{◌≡◌, ℕ, ◌+◌, ◌-◌, ◌<◌, true, ℤ, pos, ◌<ℤ◌, ◌+ℤ◌, ◌-ℤ◌, List, [], ◌∷◌, map, length, slice_index_or}
use Rattle.std.specs.List.{All, AllPairs, Any}
use Rattle.fzn_domain.specs.declared.literal.VarId.{VarId}
use Rattle.fzn_domain.specs.declared.literal.Lit.{Lit}
use Rattle.fzn_domain.specs.declared.literal.Op.TheVariants.{AtMost, AtLeast, NotEqual}
use Rattle.fzn_domain.specs.IntSet.{IntSet}
use Rattle.fzn_domain.specs.Narrow.{IsWithin, value_of, is_clause_true}
use Rattle.fzn_meaning.specs.declared.model.Var.{Var}
use Rattle.fzn_meaning.specs.declared.model.Goal.{Goal}
use Rattle.fzn_meaning.specs.declared.model.Goal.TheVariants.{Satisfy, Minimize, Maximize}
use Rattle.fzn_meaning.specs.declared.model.Model.{Model}
use Rattle.fzn_meaning.specs.Meaning.{Meets}

-- the declared sets, one for each variable
abbrev pub declared_sets : List Var → List IntSet
declared_sets vars = map (λ var. var.domain) vars

-- an assignment gives each variable a value of its set
abbrev pub IsAssignment : Model → List ℤ → Type 0
IsAssignment model values = IsWithin (declared_sets model.vars) values

-- a solution is an assignment that meets every constraint
abbrev pub IsSolution : Model → List ℤ → Type 0
IsSolution model values = IsAssignment model values × All (λ constraint. Meets constraint values) model.constraints

-- the objective of a is less, or greater, than that of b; never so in satisfaction
abbrev pub IsBetterFor : Goal → List ℤ → List ℤ → Type 0
IsBetterFor Satisfy a b = ⊥
IsBetterFor (Minimize var) a b = value_of a var <ℤ value_of b var
IsBetterFor (Maximize var) a b = value_of b var <ℤ value_of a var

abbrev pub IsBetter : Model → List ℤ → List ℤ → Type 0
IsBetter model a b = IsBetterFor model.goal a b

-- a and b give each of the output variables the same value
abbrev pub Agree : List VarId → List ℤ → List ℤ → Type 0
Agree outputs a b = All (λ var. value_of a var ≡ value_of b var) outputs

-- In satisfaction no two places of the list agree on all output variables; in an optimisation each
-- member is better than the one before it.
abbrev pub IsInOrder : Goal → List VarId → List (List ℤ) → Type 0
IsInOrder Satisfy outputs found = AllPairs (λ a b. Agree outputs a b → ⊥) found
IsInOrder goal outputs found = (k : ℕ) (d : List ℤ) → k + 1 < length found → IsBetterFor goal (slice_index_or found (k + 1) d) (slice_index_or found k d)

-- a proper list: each member is a solution, and they are in order
pub record IsProper (model : Model) (found : List (List ℤ)) : Type 0 where
  pub solutions : All (IsSolution model) found
  pub in_order : IsInOrder model.goal model.outputs found

-- In satisfaction a agrees with a member of the list on the output variables; in an optimisation it
-- is not better than the last one.
abbrev pub IsCovered : Goal → List VarId → List (List ℤ) → List ℤ → Type 0
IsCovered Satisfy outputs found a = Any (Agree outputs a) found
IsCovered goal outputs found a = IsBetterFor goal a (slice_index_or found (length found - 1) []) → ⊥

-- an exhausted list: where it is empty there is no solution, and else each solution is covered
abbrev pub IsExhausted : Model → List (List ℤ) → Type 0
IsExhausted model [] = (a : List ℤ) → IsSolution model a → ⊥
IsExhausted model (first ∷ rest) = (a : List ℤ) → IsSolution model a → IsCovered model.goal model.outputs (first ∷ rest) a

-- The cut of a solution: in an optimisation "better than this one", in satisfaction "some output
-- variable has another value".
abbrev pub cut_for : Goal → List VarId → List ℤ → List Lit
cut_for Satisfy outputs values = map (λ var. record { var = var; op = NotEqual; value = value_of values var }) outputs
cut_for (Minimize var) outputs values = record { var = var; op = AtMost; value = value_of values var -ℤ pos 1 } ∷ []
cut_for (Maximize var) outputs values = record { var = var; op = AtLeast; value = value_of values var +ℤ pos 1 } ∷ []

abbrev pub cut_of : Model → List ℤ → List Lit
cut_of model values = cut_for model.goal model.outputs values

-- the values make the cut of each of these solutions true
abbrev pub PassesCuts : Model → List (List ℤ) → List ℤ → Type 0
PassesCuts model found values = All (λ a. is_clause_true values (cut_of model a) ≡ true) found
