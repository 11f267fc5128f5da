-- The constraints from which an answer follows.
use Rattle.std.specs.Prelude.{◌≡◌, ◌⊎◌, ◌↔◌, ◌+◌, ◌-◌, ◌≤◌, ℕ, Bool, true, false, ℤ, List, [], ◌∷◌, length, Option, Some, None, Contains, flat_map, slice_range}
use Rattle.std.specs.List.{filter_map}
use Rattle.std.specs.List.Sorted.{IsStrictlyIncreasing}
use Rattle.fzn_meaning.specs.declared.model.Model.{Model}
use Rattle.fzn_meaning.specs.Solutions.{IsExhausted}
use Rattle.fzn_derive.specs.declared.derivation.Derivation.{Derivation}
use Rattle.fzn_derive.specs.Derived.{cited}
use Rattle.fzn_cert.specs.declared.step.Step.{Step}
use Rattle.fzn_cert.specs.declared.step.Step.TheVariants.{Infer}
use Rattle.fzn_cert.specs.Accepted.{AllAccepted, past_after}
use Rattle.fzn_head.specs.Extended.{Extends}

-- the same variables, output and goal, and of the constraints those with these numbers alone; constraints are numbered from 1
abbrev pub only : Model → List ℕ → Model
only model numbers = record model { constraints = flat_map (λ number. slice_range model.constraints (number - 1) number) numbers }

-- the constraint that a step infers from
abbrev pub inferred_from : Step → Option ℕ
inferred_from (Infer it) = Some it.constraint
inferred_from _ = None

-- The constraint with this number is needed for those with these numbers: it is one of them, or a derivation cites it that gives one which is
-- needed. The first derivation gives the constraint behind so many.
abbrev pub IsNeeded : ℕ → List Derivation → List ℕ → ℕ → Type 0
IsNeeded before [] numbers number = Contains numbers number
IsNeeded before (derivation ∷ later) numbers number =
    IsNeeded (before + 1) later numbers number ⊎ (IsNeeded (before + 1) later numbers (before + 1) × Contains (cited derivation) number)

-- These numbers, in rising order, are those of the model's own constraints that are needed for the constraints that accepted steps with these
-- solutions infer from, up to the empty clause; the steps may infer from what is derived too. So what is said of the solutions follows from
-- these constraints alone.
pub record RestsOn (model after : Model) (read : List Derivation) (found : List (List ℤ)) (numbers : List ℕ) : Type 0 where
  pub extends : Extends model read after
  pub steps : List Step
  pub accepted : AllAccepted after steps
  pub solutions : (past_after after steps).solutions ≡ found
  pub refuted : (past_after after steps).refuted ≡ true
  pub needed : (number : ℕ) → Contains numbers number ↔ ((1 ≤ number) × (number ≤ length model.constraints) × IsNeeded (length model.constraints) read (filter_map inferred_from steps) number)
  pub rising : IsStrictlyIncreasing numbers
  pub exhausted : IsExhausted (only model numbers) found

-- a closed answer rests on these constraints; of an open one there are none
abbrev pub IsCore : Model → Model → List Derivation → List (List ℤ) → Bool → List ℕ → Type 0
IsCore model after read found true numbers = RestsOn model after read found numbers
IsCore model after read found false numbers = numbers ≡ []
