-- What solutions give the output variables.
use Rattle.std.specs.Prelude.{◌≡◌, Bool, ℤ, List, map}
use Rattle.std.specs.List.{list_any}
use Rattle.std.specs.Ordering.{int_eq}
use Rattle.std.specs.Cmp.Lexicographic.{pointwise}
use Rattle.fzn_domain.specs.declared.literal.VarId.{VarId}
use Rattle.fzn_domain.specs.Narrow.{value_of}
use Rattle.fzn_meaning.specs.declared.model.Goal.TheVariants.{Satisfy}
use Rattle.fzn_meaning.specs.declared.model.Model.{Model}

-- what the values give the variables, in order
abbrev pub given_by : List VarId → List ℤ → List ℤ
given_by vars values = map (value_of values) vars

-- what each solution gives them
abbrev pub given_in : List VarId → List (List ℤ) → List (List ℤ)
given_in vars found = map (given_by vars) found

-- whether the list is among these
abbrev pub is_given : List (List ℤ) → List ℤ → Bool
is_given lists values = list_any (pointwise int_eq values) lists

-- in a satisfaction, these are what the solutions give the output variables
abbrev pub AreGiven : Model → List (List ℤ) → List (List ℤ) → Type 0
AreGiven model found given = model.goal ≡ Satisfy → given ≡ given_in model.outputs found
