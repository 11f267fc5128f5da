-- Terms, and weighted sums of them.
use Rattle.std.specs.Prelude.{ℕ, ℤ, pos, ◌+ℤ◌, ◌*ℤ◌, List, map}
use Rattle.std.specs.List.{fold, zip}
use Rattle.fzn_domain.specs.Limits.{IsInLimits, IsSmall}
use Rattle.fzn_domain.specs.Narrow.{IsVariable, value_of}
use Rattle.fzn_values.specs.declared.term.Term.{Term}
use Rattle.fzn_values.specs.declared.term.Term.TheVariants.{Constant, Variable}
use Rattle.fzn_values.specs.declared.term.Place.{Place}

-- the value of a term where the variables have these values
abbrev pub term_value : List ℤ → Term → ℤ
term_value values (Constant k) = k
term_value values (Variable var) = value_of values var

-- the values of the terms, in order
abbrev pub values_of : List ℤ → List Term → List ℤ
values_of values terms = map (term_value values) terms

-- the number that a constant is, else 0
abbrev pub number_in : Term → ℤ
number_in (Constant k) = k
number_in (Variable var) = pos 0

abbrev pub numbers_in : List Term → List ℤ
numbers_in terms = map number_in terms

-- each number with the term that it is multiplied with
abbrev pub weighted : List Term → List Term → List Place
weighted numbers terms = map (λ pair. record { coefficient = number_in pair.0; term = pair.1 }) (zip numbers terms)

-- the sum over the places of what each gives
abbrev pub total_by : (Place → ℤ) → List Place → ℤ
total_by give places = fold (λ sum place. sum +ℤ give place) (pos 0) places

abbrev pub product_at : List ℤ → Place → ℤ
product_at values place = place.coefficient *ℤ term_value values place.term

-- the sum of the coefficients times the values of their terms
abbrev pub sum_at : List ℤ → List Place → ℤ
sum_at values places = total_by (product_at values) places

-- a constant within the limits, or one of this many variables
abbrev pub IsTerm : ℕ → Term → Type 0
IsTerm count (Constant k) = IsInLimits k
IsTerm count (Variable var) = IsVariable count var

abbrev pub IsPlace : ℕ → Place → Type 0
IsPlace count place = IsTerm count place.term × IsSmall place.coefficient
