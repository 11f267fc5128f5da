-- Variables that constraints tell apart: no values that meet the constraint give both the same.
use Rattle.std.specs.Prelude.{◌≡◌, ◌≢◌, ◌⊎◌, ℕ, ◌≤◌, pos, ◌+ℤ◌, List, [], ◌∷◌, ◌++◌, map, length, Some, None, slice_get}
use Rattle.std.specs.List.{All, zip}
use Rattle.fzn_list.specs.Limits.{longest}
use Rattle.fzn_domain.specs.declared.literal.VarId.{VarId}
use Rattle.fzn_domain.specs.Narrow.{IsVariable}
use Rattle.fzn_values.specs.declared.term.Term.{Term}
use Rattle.fzn_values.specs.declared.term.Term.TheVariants.{Variable}
use Rattle.fzn_values.specs.declared.term.Place.{Place}
use Rattle.fzn_meaning.specs.declared.relation.Relation.TheVariants.{NotEqual}
use Rattle.fzn_meaning.specs.declared.relation.Comparison.TheVariants as sum
use Rattle.fzn_meaning.specs.declared.constraint.Constraint.{Constraint}
use Rattle.fzn_meaning.specs.declared.constraint.Constraint.TheVariants.{Compare, Linear, AllDifferent, Circuit, Inverse}
use Rattle.fzn_cited.specs.declared.fault.DeriveFault.{DeriveFault}
use Rattle.fzn_cited.specs.declared.fault.DeriveFault.TheVariants.{Memory, NoSuchVariable, NoSuchConstraint, NotDerived}
use Rattle.fzn_cited.specs.Cited.{IsCitedAs, IsCitedWrong, HoldsUpTo}

-- the two variables stand at two places
abbrev pub StandApart : List Term → VarId → VarId → Type 0
StandApart terms x y = (i j : ℕ) × (i ≢ j) × (slice_get terms i ≡ Some (Variable x)) × (slice_get terms j ≡ Some (Variable y))

-- two places with opposite coefficients, which are not 0
abbrev pub CancelOut : List Place → Type 0
CancelOut (first ∷ second ∷ []) = (first.coefficient +ℤ second.coefficient ≡ pos 0) × (first.coefficient ≢ pos 0)
CancelOut _ = ⊥

-- the constraint says that the two differ: their variables stand at two places of terms that it says are all different
unfoldable pub TellsApart : Constraint → VarId → VarId → Type 0
TellsApart (Compare NotEqual left right None) x y = StandApart (left ∷ right ∷ []) x y
TellsApart (Linear places sum.NotEqual bound None) x y = CancelOut places × (bound ≡ pos 0) × StandApart (map (λ place. place.term) places) x y
TellsApart (AllDifferent places) x y = StandApart places x y
TellsApart (Circuit successors) x y = StandApart successors x y
TellsApart (Inverse forward backward) x y = StandApart forward x y ⊎ StandApart backward x y
TellsApart _ x y = ⊥

-- each two places of a list: the first with each later one, then the second, and so on
abbrev pub two_by_two : {A : Type 0} → List A → List (A × A)
two_by_two [] = []
two_by_two (x ∷ xs) = map (λ y. (x, y)) xs ++ two_by_two xs

-- each two variables with the number of a constraint
abbrev pub pairs_cited : List VarId → List ℕ → List ((VarId × VarId) × ℕ)
pairs_cited variables ids = zip (two_by_two variables) ids

-- the constraint that is cited for the two tells them apart, or else this is wrong with it
abbrev pub IsPairTold : List Constraint → (VarId × VarId) × ℕ → Type 0
IsPairTold given (pair, id) = IsCitedAs (λ constraint. TellsApart constraint pair.0 pair.1) given id

abbrev pub IsPairWrong : List Constraint → DeriveFault → (VarId × VarId) × ℕ → Type 0
IsPairWrong given fault (pair, id) = IsCitedWrong (λ constraint. TellsApart constraint pair.0 pair.1) given id fault

-- up to the first two that are not told apart they are, and this is wrong there
abbrev pub IsPairsFault : List Constraint → List ((VarId × VarId) × ℕ) → DeriveFault → Type 0
IsPairsFault given pairs fault = HoldsUpTo (IsPairTold given) (IsPairWrong given fault) pairs

-- there is one number for each two variables, of which there are not too many
abbrev pub HasOneForEachTwo : List VarId → List ℕ → Type 0
HasOneForEachTwo variables ids = (length variables ≤ longest) × (length ids ≡ length (two_by_two variables))

-- of these variables each two are told apart by the constraint that is cited for them, so they are all different
abbrev pub AreToldApart : List Constraint → ℕ → List VarId → List ℕ → Constraint → Type 0
AreToldApart given count variables ids (AllDifferent places) =
    All (IsVariable count) variables × HasOneForEachTwo variables ids × All (IsPairTold given) (pairs_cited variables ids) × (places ≡ map Variable variables)
AreToldApart given count variables ids _ = ⊥

-- the first thing that is wrong: a variable; how many numbers there are; the first two that are not told apart
abbrev pub IsApartFault : List Constraint → ℕ → List VarId → List ℕ → DeriveFault → Type 0
IsApartFault given count variables ids Memory = ⊥
IsApartFault given count variables ids NoSuchVariable = ¬ All (IsVariable count) variables
IsApartFault given count variables ids NoSuchConstraint =
    All (IsVariable count) variables × HasOneForEachTwo variables ids × IsPairsFault given (pairs_cited variables ids) NoSuchConstraint
IsApartFault given count variables ids NotDerived =
    All (IsVariable count) variables × (¬ HasOneForEachTwo variables ids ⊎ HasOneForEachTwo variables ids × IsPairsFault given (pairs_cited variables ids) NotDerived)
