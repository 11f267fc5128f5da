-- Terms whose values are looked at one by one.
use Rattle.std.specs.Prelude.{◌⊎◌, ℕ, ◌*◌, ◌≤◌, min, pos, ◌-ℤ◌, ◌≤ℤ◌, List}
use Rattle.fzn_domain.specs.IntSet.{IntSet, size}
use Rattle.fzn_domain.specs.Narrow.{set_of}
use Rattle.fzn_values.specs.declared.term.Term.{Term}
use Rattle.fzn_values.specs.declared.term.Term.TheVariants.{Constant, Variable}
use Rattle.fzn_sets.specs.Terms.{least_value, greatest_value}
use Rattle.fzn_terms.specs.declared.narrow.TheConstants.{FEW_VALUES, SPAN_OF_A_VALUE, LONGEST_SPAN}

-- how many values a term has; a constant has its own one value
abbrev pub value_count : List IntSet → Term → ℕ
value_count sets (Constant k) = 1
value_count sets (Variable var) = size (set_of sets var)

-- these are few
abbrev pub HasFewValues : List IntSet → Term → Type 0
HasFewValues sets term = value_count sets term ≤ FEW_VALUES

-- the span, which is the greatest value less the least, is no more than a few times this many values
abbrev pub IsShort : List IntSet → Term → ℕ → Type 0
IsShort sets term count = (greatest_value sets term -ℤ least_value sets term) ≤ℤ pos (min (count * SPAN_OF_A_VALUE) LONGEST_SPAN)

-- the term has few values, or a short span beside so many that may stay
abbrev pub IsNarrow : List IntSet → Term → ℕ → Type 0
IsNarrow sets term count = IsShort sets term count ⊎ HasFewValues sets term
