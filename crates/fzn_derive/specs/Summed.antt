-- Sums of constraints.
use Rattle.std.specs.Prelude.{◌≡◌, ◌≢◌, ◌⊎◌, ℕ, ◌+◌, ◌<◌, ◌≤◌, ℤ, pos, ◌*ℤ◌, ◌-ℤ◌, ◌+ℤ◌, ◌≤ℤ◌, List, [], map, length, take, unsigned_abs, slice_index_or, Option, None, IsSomeAnd}
use Rattle.std.specs.List.{All, flat_map, fold}
use Rattle.std.specs.Option.{option_and_then, option_map_or}
use Rattle.fzn_domain.specs.Limits.{IsSmall}
use Rattle.fzn_values.specs.declared.term.Place.{Place}
use Rattle.fzn_meaning.specs.declared.relation.Comparison.{Comparison}
use Rattle.fzn_meaning.specs.declared.relation.Comparison.TheVariants.{AtMost, Equal, NotEqual}
use Rattle.fzn_meaning.specs.declared.constraint.Constraint.{Constraint}
use Rattle.fzn_meaning.specs.declared.constraint.Constraint.TheVariants.{Linear}
use Rattle.fzn_meaning.specs.Meaning.{longest}
use Rattle.fzn_builtin_rules.specs.Form.{Form, form_of}
use Rattle.fzn_cited.specs.declared.multiple.Multiple.{Multiple}
use Rattle.fzn_cited.specs.declared.fault.DeriveFault.{DeriveFault}
use Rattle.fzn_cited.specs.declared.fault.DeriveFault.TheVariants.{NoSuchConstraint, NotDerived}
use Rattle.fzn_cited.specs.Cited.{constraint_at, IsGiven}
use Rattle.fzn_derive.specs.Merged.{coefficient_of, constant_of, merged}

-- the form of the constraint of this number, where it has one
abbrev pub form_given : List Constraint → ℕ → Option Form
form_given given number = option_and_then form_of (constraint_at given number)

-- each coefficient times this number
abbrev pub times : ℤ → List Place → List Place
times k places = map (λ place. record { coefficient = k *ℤ place.coefficient; term = place.term }) places

-- the places of a form, and its bound, each times the multiplier
abbrev pub scaled : List Constraint → Multiple → List Place
scaled given multiple = option_map_or (λ found. times multiple.multiplier found.places) (form_given given multiple.constraint) []

abbrev pub scaled_bound : List Constraint → Multiple → ℤ
scaled_bound given multiple = option_map_or (λ found. multiple.multiplier *ℤ found.bound) (form_given given multiple.constraint) (pos 0)

-- the places of all, put together
unfoldable pub scaled_all : List Constraint → List Multiple → List Place
scaled_all given multiples = flat_map (scaled given) multiples

-- the bounds of all, added up
unfoldable pub scaled_bounds : List Constraint → List Multiple → ℤ
scaled_bounds given multiples = fold (λ sum multiple. sum +ℤ scaled_bound given multiple) (pos 0) multiples

-- the bound once the constants are on its side
unfoldable pub bound_left : List Constraint → List Multiple → ℤ
bound_left given multiples = scaled_bounds given multiples -ℤ constant_of (scaled_all given multiples)

-- a sum that is at most its bound is multiplied by a number above 0, one that is its bound by any but 0
abbrev pub MayMultiply : Comparison → ℤ → Type 0
MayMultiply AtMost k = pos 1 ≤ℤ k
MayMultiply Equal k = k ≢ pos 0
MayMultiply NotEqual k = ⊥

-- a form without a switch that may be multiplied so, by at most 10^12
pub record IsUsable (multiplier : ℤ) (found : Form) : Type 0 where
  pub without_switch : found.switch ≡ None
  pub by : MayMultiply found.comparison multiplier
  pub within : unsigned_abs multiplier ≤ 1000000000000

-- the coefficient of each variable, and the bound, is at most 10^18
pub record IsWithinSums (given : List Constraint) (multiples : List Multiple) : Type 0 where
  pub coefficients : (number : ℕ) → 1 ≤ number → unsigned_abs (coefficient_of number (scaled_all given multiples)) ≤ 1000000000000000000
  pub bound : unsigned_abs (bound_left given multiples) ≤ 1000000000000000000

-- the multiple at this place, counted from 0
abbrev pub multiple_at : List Multiple → ℕ → Multiple
multiple_at multiples i = slice_index_or multiples i (record { multiplier = pos 0; constraint = 0 })

abbrev pub IsCitedAt : List Constraint → List Multiple → ℕ → Type 0
IsCitedAt given multiples i = IsGiven given (multiple_at multiples i).constraint

-- the multiple at this place can be added to those before it
pub record IsAddableAt (given : List Constraint) (multiples : List Multiple) (i : ℕ) : Type 0 where
  pub usable : IsSomeAnd (form_given given (multiple_at multiples i).constraint) (IsUsable (multiple_at multiples i).multiplier)
  pub within : IsWithinSums given (take (i + 1) multiples)

-- so can each of the first so many
abbrev pub AreAddable : List Constraint → List Multiple → ℕ → Type 0
AreAddable given multiples count = (i : ℕ) → i < count → IsCitedAt given multiples i × IsAddableAt given multiples i

-- a sum of at most 100,000 places, each with a coefficient, and with a bound, of at most 10^9
pub record IsStatable (sum : List Place) (bound : ℤ) : Type 0 where
  pub coefficients : All (λ place. IsSmall place.coefficient) sum
  pub bounded : IsSmall bound
  pub short : length sum ≤ longest

-- the variables of the sum, of this many, with what each counts in it, the constants being on the side of the bound
abbrev pub sum_left : List Constraint → ℕ → List Multiple → List Place
sum_left given count multiples = merged count (scaled_all given multiples)

-- the sum of the forms, each times its multiplier, is at most what their bounds give
pub record IsSummed (given : List Constraint) (count : ℕ) (multiples : List Multiple) (constraint : Constraint) : Type 0 where
  pub addable : AreAddable given multiples (length multiples)
  pub statable : IsStatable (sum_left given count multiples) (bound_left given multiples)
  pub is : constraint ≡ Linear (sum_left given count multiples) AtMost (bound_left given multiples) None

-- what is wrong with the multiple at this place: first that there is no such constraint
abbrev pub IsFaultAt : List Constraint → List Multiple → ℕ → DeriveFault → Type 0
IsFaultAt given multiples i NoSuchConstraint = IsCitedAt given multiples i → ⊥
IsFaultAt given multiples i NotDerived = IsCitedAt given multiples i × (IsAddableAt given multiples i → ⊥)
IsFaultAt given multiples i _ = ⊥

-- the first multiple that cannot be added has this fault
pub record IsFirstSumFault (given : List Constraint) (multiples : List Multiple) (fault : DeriveFault) : Type 0 where
  pub place : ℕ
  pub inside : place < length multiples
  pub before : AreAddable given multiples place
  pub here : IsFaultAt given multiples place fault

-- all can be added, and what they give cannot be stated
pub record IsUnstatable (given : List Constraint) (count : ℕ) (multiples : List Multiple) (fault : DeriveFault) : Type 0 where
  pub addable : AreAddable given multiples (length multiples)
  pub too_large : IsStatable (sum_left given count multiples) (bound_left given multiples) → ⊥
  pub fault_is : fault ≡ NotDerived

-- why the sum of the forms, each times its multiplier, is no constraint
abbrev pub IsSumFault : List Constraint → ℕ → List Multiple → DeriveFault → Type 0
IsSumFault given count multiples fault = IsFirstSumFault given multiples fault ⊎ IsUnstatable given count multiples fault
