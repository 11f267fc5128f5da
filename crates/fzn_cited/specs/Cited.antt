-- Constraints that are cited by their numbers, which count from 1.
use Rattle.std.specs.Prelude.{◌≡◌, ◌⊎◌, ℕ, ◌-◌, ◌==◌, if◌then◌else◌, ℤ, List, [], ◌∷◌, Option, None, slice_get, IsSome, IsSomeAnd, IfSome}
use Rattle.std.specs.List.{All}
use Rattle.fzn_meaning.specs.declared.constraint.Constraint.{Constraint}
use Rattle.fzn_meaning.specs.Meaning.{Meets}
use Rattle.fzn_cited.specs.declared.fault.DeriveFault.{DeriveFault}
use Rattle.fzn_cited.specs.declared.fault.DeriveFault.TheVariants.{NoSuchConstraint, NotDerived}

-- the constraint with this number, where there is one
abbrev pub constraint_at : List Constraint → ℕ → Option Constraint
constraint_at given id = if id == 0 then None else slice_get given (id - 1)

-- there is a constraint with this number
abbrev pub IsGiven : List Constraint → ℕ → Type 0
IsGiven given id = IsSome (constraint_at given id)

-- there is one, and P holds of it
abbrev pub IsCitedAs : (Constraint → Type 0) → List Constraint → ℕ → Type 0
IsCitedAs P given id = IsSomeAnd (constraint_at given id) P

-- what is wrong where it is not: there is none, or P does not hold of it
abbrev pub IsCitedWrong : (Constraint → Type 0) → List Constraint → ℕ → DeriveFault → Type 0
IsCitedWrong P given id NoSuchConstraint = constraint_at given id ≡ None
IsCitedWrong P given id NotDerived = IsSomeAnd (constraint_at given id) (λ constraint. P constraint → ⊥)
IsCitedWrong P given id _ = ⊥

-- the values meet the constraints with these numbers
abbrev pub AreMet : List Constraint → List ℕ → List ℤ → Type 0
AreMet given numbers values = All (λ number. IfSome (constraint_at given number) (λ constraint. Meets constraint values)) numbers

-- P holds of the elements up to one of which Q holds
abbrev pub HoldsUpTo : {A : Type 0} → (A → Type 0) → (A → Type 0) → List A → Type 0
HoldsUpTo P Q [] = ⊥
HoldsUpTo P Q (x ∷ xs) = Q x ⊎ (P x × HoldsUpTo P Q xs)
