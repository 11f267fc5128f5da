-- The value of a variable that a constraint decides by another one.
use Rattle.std.specs.Prelude.{◌*◌, ◌≤◌, ℤ, pos, negsuc, ◌+ℤ◌, ◌-ℤ◌, ◌*ℤ◌, int_le, int_div, int_rem, Bool, true, false, not, ◌&&◌, ◌||◌, if◌then◌else◌, nat_eq, List, [], ◌∷◌, slice_get, length, unsigned_abs, Option, None, Some, is_none, option_and_then}
use Rattle.std.specs.List.{All, list_all}
use Rattle.std.specs.Option.{option_map_or}
use Rattle.std.specs.Ordering.{int_eq}
use Rattle.fzn_list.specs.Limits.{longest}
use Rattle.fzn_domain.specs.declared.literal.VarId.{VarId}
use Rattle.fzn_values.specs.declared.term.Term.{Term}
use Rattle.fzn_values.specs.declared.term.Term.TheVariants.{Constant, Variable}
use Rattle.fzn_values.specs.declared.term.Place.{Place}
use Rattle.fzn_meaning.specs.declared.relation.Comparison.{Comparison}
use Rattle.fzn_meaning.specs.declared.relation.Comparison.TheVariants.{AtMost, Equal, NotEqual}
use Rattle.fzn_meaning.specs.declared.constraint.Constraint.{Constraint}
use Rattle.fzn_meaning.specs.declared.constraint.Constraint.TheVariants.{Element}
use Rattle.fzn_values.specs.Term.{number_in, numbers_in}
use Rattle.fzn_builtin_rules.specs.Form.{Form, form_of}

-- ---- sums

-- the term where this variable has the one value, and every other the other
abbrev pub term_where : VarId → ℤ → ℤ → Term → ℤ
term_where var value other (Constant k) = k
term_where var value other (Variable v) = if nat_eq v.0 var.0 then value else other

-- the sum there
abbrev pub sum_where : VarId → ℤ → ℤ → List Place → ℤ
sum_where var value other [] = pos 0
sum_where var value other (place ∷ places) = (place.coefficient *ℤ term_where var value other place.term) +ℤ sum_where var value other places

-- what all other variables together are multiplied with
abbrev pub coefficient_besides : VarId → List Place → ℤ
coefficient_besides var places = sum_where var (pos 0) (pos 1) places -ℤ sum_where var (pos 0) (pos 0) places

-- the variable of the term, unless it is one of these two
abbrev pub another_in : VarId → VarId → Term → Option VarId
another_in one two (Constant k) = None
another_in one two (Variable v) = if nat_eq v.0 one.0 || nat_eq v.0 two.0 then None else Some v

-- the first variable of the places that is neither of these two
abbrev pub another_of : VarId → VarId → List Place → Option VarId
another_of one two [] = None
another_of one two (place ∷ places) = option_map_or (λ v. Some v) (another_in one two place.term) (another_of one two places)

-- a coefficient and a constant that are no further from 0 than 10^9
abbrev pub HasSmallNumbers : Place → Type 0
HasSmallNumbers place = (unsigned_abs place.coefficient ≤ 1000000000) × (unsigned_abs (number_in place.term) ≤ 1000000000)

-- ---- forms

-- few places, and no number further from 0 than 10^9
pub record AreBounded (found : Form) : Type 0 where
  pub places : All HasSmallNumbers found.places
  pub few : length found.places ≤ 2 * longest
  pub bound : unsigned_abs found.bound ≤ 1000000000

-- whether a sum compares so with the bound, and that as a number
abbrev pub sum_compares : Comparison → ℤ → ℤ → Bool
sum_compares AtMost sum bound = int_le sum bound
sum_compares Equal sum bound = int_eq sum bound
sum_compares NotEqual sum bound = not (int_eq sum bound)

abbrev pub bit : Bool → ℤ
bit is = if is then pos 1 else pos 0

abbrev pub is_equal : Comparison → Bool
is_equal Equal = true
is_equal _ = false

-- the quotient, where it is a whole number
abbrev pub quotient : ℤ → ℤ → Option ℤ
quotient number divisor = if not (int_eq divisor (pos 0)) && int_eq (int_rem number divisor) (pos 0) then Some (int_div number divisor) else None

-- the term is this variable
abbrev pub is_place_of : VarId → Term → Bool
is_place_of var (Constant k) = false
is_place_of var (Variable other) = nat_eq other.0 var.0

-- the first variable has one value for each of the second, which is the only other one: as the switch of a form, or as a place of a sum that
-- is its bound
abbrev pub is_decided : VarId → VarId → Form → Bool
is_decided var by found = option_map_or
    (λ switch. is_place_of var switch && is_none (another_of by by found.places))
    found.switch
    (is_equal found.comparison && is_none (another_of by var found.places) && not (int_eq (coefficient_besides by found.places) (pos 0)))

abbrev pub form_decider : VarId → Form → Option VarId
form_decider var found = option_and_then (λ by. if is_decided var by found then Some by else None) (another_of var var found.places)

-- what the first one is where the second has this value
abbrev pub form_value : VarId → ℤ → Form → Option ℤ
form_value by value found = option_map_or
    (λ switch. Some (bit (sum_compares found.comparison (sum_where by value (pos 0) found.places) found.bound)))
    found.switch
    (quotient (found.bound -ℤ sum_where by value (pos 0) found.places) (coefficient_besides by found.places))

-- ---- constraints

abbrev pub is_constant : Term → Bool
is_constant (Constant k) = true
is_constant (Variable var) = false

-- the number at a distance from the first
abbrev pub entry_number : List ℤ → ℤ → Option ℤ
entry_number numbers (pos k) = slice_get numbers k
entry_number numbers (negsuc k) = None

-- the variable that decides this one: the index of an element of constants, or by the form of the constraint
abbrev pub decider_in : VarId → Constraint → Option VarId
decider_in var (Element (Variable index) entries (Variable value)) = if nat_eq value.0 var.0 && list_all is_constant entries then Some index else None
decider_in var constraint = option_and_then (form_decider var) (form_of constraint)

-- what it decides where it has this value
abbrev pub decided_in : VarId → ℤ → Constraint → Option ℤ
decided_in by value (Element index entries result) = entry_number (numbers_in entries) (value -ℤ pos 1)
decided_in by value constraint = option_and_then (form_value by value) (form_of constraint)
