-- Places put together: one for each variable that counts in them, and what their constants give.
use Rattle.std.specs.Prelude.{ℕ, ℤ, pos, ◌*ℤ◌, Bool, not, if◌then◌else◌, nat_eq, List, map}
use Rattle.std.specs.List.{filter, range_with_len}
use Rattle.std.specs.Ordering.{int_eq}
use Rattle.fzn_values.specs.declared.term.Term.{Term}
use Rattle.fzn_values.specs.declared.term.Term.TheVariants.{Constant, Variable}
use Rattle.fzn_values.specs.declared.term.Place.{Place}
use Rattle.fzn_values.specs.Term.{total_by}

-- what a term with this coefficient adds to that of the variable with this number
abbrev pub own_coefficient : ℕ → ℤ → Term → ℤ
own_coefficient number coefficient (Constant k) = pos 0
own_coefficient number coefficient (Variable var) = if nat_eq number var.0 then coefficient else pos 0

-- the coefficients of a variable, added up
unfoldable pub coefficient_of : ℕ → List Place → ℤ
coefficient_of number places = total_by (λ place. own_coefficient number place.coefficient place.term) places

-- what a constant gives
abbrev pub own_constant : ℤ → Term → ℤ
own_constant coefficient (Constant k) = coefficient *ℤ k
own_constant coefficient (Variable var) = pos 0

-- what the constants give together
unfoldable pub constant_of : List Place → ℤ
constant_of places = total_by (λ place. own_constant place.coefficient place.term) places

-- a variable with its coefficients added up
abbrev pub whole : List Place → ℕ → Place
whole places number = record { coefficient = coefficient_of number places; term = Variable (record { 0 = number }) }

abbrev pub has_weight : Place → Bool
has_weight place = not (int_eq place.coefficient (pos 0))

-- each of this many variables with its coefficients added up, in order, but for those that add up to 0
unfoldable pub merged : ℕ → List Place → List Place
merged count places = filter has_weight (map (whole places) (range_with_len 1 count))
