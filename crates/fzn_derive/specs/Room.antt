-- The room in which constraints are added up.
use Rattle.std.specs.Prelude.{◌≡◌, ◌⊎◌, ℕ, ◌+◌, ◌-◌, ◌<◌, false, ℤ, pos, ◌+ℤ◌, ◌-ℤ◌, ◌*ℤ◌, List, [], map, length, replicate, slice_index_or, Some}
use Rattle.std.specs.List.{All, AllPairs, Contains, filter, range_with_len}
use Rattle.fzn_values.specs.declared.term.Term.{Term}
use Rattle.fzn_values.specs.declared.term.Term.TheVariants.{Constant, Variable}
use Rattle.fzn_values.specs.declared.term.Place.{Place}
use Rattle.fzn_meaning.specs.declared.constraint.Constraint.{Constraint}
pub use Rattle.fzn_meaning.specs.Separable.{IsWithinLimit}
use Rattle.fzn_builtin_rules.specs.Form.{Form}
use Rattle.fzn_row.specs.Room.{room_size}
use Rattle.fzn_derive.specs.declared.adder.Cell.{Cell}
use Rattle.fzn_derive.specs.declared.adder.Adder.{Adder}
use Rattle.fzn_derive.specs.declared.deriver.Deriver.{Deriver}
use Rattle.fzn_cited.specs.declared.multiple.Multiple.{Multiple}
use Rattle.fzn_cited.specs.declared.fault.DeriveFault.{DeriveFault}
use Rattle.fzn_cited.specs.declared.fault.DeriveFault.TheVariants.{NoSuchConstraint, NotDerived}
use Rattle.fzn_cited.specs.Cited.{IsGiven}
use Rattle.fzn_derive.specs.Merged.{coefficient_of, constant_of, has_weight}
use Rattle.fzn_derive.specs.Summed.{form_given, times, scaled_all, bound_left, IsUsable, AreAddable}

abbrev pub blank : Cell
blank = record { sum = pos 0; touched = false }

-- what is held of the variable at this place, counted from 0
abbrev pub cell_of : Adder → ℕ → Cell
cell_of room place = slice_index_or room.cells.items place blank

-- how many variables there is room for
abbrev pub variables_in : Adder → ℕ
variables_in room = length room.cells.items

-- nothing is held of any of this many variables
pub record HoldsNothing (count : ℕ) (room : Adder) : Type 0 where
  pub cells : room.cells.items ≡ replicate count blank
  pub touched : room.touched.items ≡ []

-- whatever is not as in a clear room is listed
pub record ListsTouched (room : Adder) : Type 0 where
  pub listed : (place : ℕ) → (cell_of room place ≡ blank) ⊎ Contains room.touched.items place
  pub inside : All (λ place. place < length room.cells.items) room.touched.items

-- the second room holds what the first one holds and what the places add
abbrev pub IsAdded : Adder → Adder → List Place → Type 0
IsAdded first second places = (place : ℕ) → (cell_of second place).sum ≡ (cell_of first place).sum +ℤ coefficient_of (place + 1) places

-- the room holds what each variable counts in the places
abbrev pub AreCounted : Adder → List Place → Type 0
AreCounted room places = (place : ℕ) → (cell_of room place).sum ≡ coefficient_of (place + 1) places

abbrev pub AreWithinLimit : Adder → Type 0
AreWithinLimit room = (place : ℕ) → IsWithinLimit (cell_of room place).sum

abbrev pub IsTermWithin : Adder → Term → Type 0
IsTermWithin room (Constant k) = Unit {0}
IsTermWithin room (Variable var) = IsWithinLimit (cell_of room (var.0 - 1)).sum

-- what the form's places and its bound, each times the multiplier, make of the bound so far
abbrev pub bound_with : ℤ → ℤ → Form → ℤ
bound_with bound multiplier found = (bound +ℤ multiplier *ℤ found.bound) -ℤ constant_of (times multiplier found.places)

-- the form has been added, each coefficient and the bound being at most 10^18
pub record IsFormAdded (first second : Adder) (bound multiplier : ℤ) (found : Form) (after : ℤ) : Type 0 where
  pub added : IsAdded first second (times multiplier found.places)
  pub bound_is : after ≡ bound_with bound multiplier found
  pub sums_within : AreWithinLimit second
  pub bound_within : IsWithinLimit after

-- added to the room and the bound, the form leaves the limits
abbrev pub IsPastLimit : Adder → ℤ → ℤ → Form → Type 0
IsPastLimit room bound multiplier found = ((place : ℕ) → IsWithinLimit ((cell_of room place).sum +ℤ coefficient_of (place + 1) (times multiplier found.places)))
    → IsWithinLimit (bound_with bound multiplier found) → ⊥

-- ---- multiples

-- the form of the multiple, where it may be added
pub record IsUsableForm (given : List Constraint) (multiple : Multiple) (found : Form) : Type 0 where
  pub form_is : form_given given multiple.constraint ≡ Some found
  pub usable : IsUsable multiple.multiplier found

-- why the multiple has none
abbrev pub IsUnusable : List Constraint → Multiple → DeriveFault → Type 0
IsUnusable given multiple NoSuchConstraint = IsGiven given multiple.constraint → ⊥
IsUnusable given multiple NotDerived = IsGiven given multiple.constraint × ((found : Form) → form_given given multiple.constraint ≡ Some found → IsUsable multiple.multiplier found → ⊥)
IsUnusable given multiple _ = ⊥

-- the multiple has been added
pub record IsMultipleAdded (given : List Constraint) (first second : Adder) (bound : ℤ) (multiple : Multiple) (after : ℤ) : Type 0 where
  pub found : Form
  pub form : IsUsableForm given multiple found
  pub added : IsFormAdded first second bound multiple.multiplier found after

-- why the multiple cannot be added
abbrev pub IsMultipleFault : List Constraint → Adder → ℤ → Multiple → DeriveFault → Type 0
IsMultipleFault given room bound multiple NoSuchConstraint = IsGiven given multiple.constraint → ⊥
IsMultipleFault given room bound multiple NotDerived = IsGiven given multiple.constraint
    × ((found : Form) → form_given given multiple.constraint ≡ Some found → IsUsable multiple.multiplier found → IsPastLimit room bound multiple.multiplier found)
IsMultipleFault given room bound multiple _ = ⊥

-- all multiples have been added, and nothing else
pub record AreSummedUp (given : List Constraint) (room : Adder) (multiples : List Multiple) (bound : ℤ) : Type 0 where
  pub addable : AreAddable given multiples (length multiples)
  pub counted : AreCounted room (scaled_all given multiples)
  pub bound_is : bound ≡ bound_left given multiples

-- ---- the sum that is held

-- what is held of the variable at this place, as a place of a sum
abbrev pub sum_place : Adder → ℕ → Place
sum_place room place = record { coefficient = (cell_of room place).sum; term = Variable (record { 0 = place + 1 }) }

-- each variable with what is held of it, in order, but for those of which it is 0
unfoldable pub held : Adder → List Place
held room = filter has_weight (map (sum_place room) (range_with_len 0 (variables_in room)))

-- the numbers of the list in rising order, each once
pub record IsSortedOnce (numbers order : List ℕ) : Type 0 where
  pub rising : AllPairs (λ x y. x < y) order
  pub keeps : (n : ℕ) → Contains numbers n → Contains order n
  pub only : (n : ℕ) → Contains order n → Contains numbers n

-- ---- the room for all ways

-- for this many variables, of none of which anything is held
pub record IsClear (count : ℕ) (room : Deriver) : Type 0 where
  pub sums : HoldsNothing count room.sums
  pub rows : room_size room.rows ≡ count
