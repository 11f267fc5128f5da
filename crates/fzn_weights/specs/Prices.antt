-- Prices of values, and what places that are all different cost at the most.
use Rattle.std.specs.Prelude.{ℕ, ℤ, pos, negsuc, ◌+ℤ◌, ◌-ℤ◌, ◌*ℤ◌, int_le, Bool, false, ◌&&◌, ◌||◌, nat_eq, nat_le, unsigned_abs, List, [], ◌∷◌, length, slice_index_or, Option, None, Some}
use Rattle.std.specs.List.{list_all}
use Rattle.std.specs.Int.{int_min}
use Rattle.std.specs.Option.{option_map}
use Rattle.std.specs.Ordering.{int_eq}
use Rattle.fzn_domain.specs.IntSet.{IntSet, size, least, greatest}
use Rattle.fzn_domain.specs.Narrow.{set_of}
use Rattle.fzn_values.specs.declared.term.Term.{Term}
use Rattle.fzn_values.specs.declared.term.Term.TheVariants.{Constant, Variable}
use Rattle.fzn_meaning.specs.declared.constraint.Constraint.{Constraint}
use Rattle.fzn_meaning.specs.declared.constraint.Constraint.TheVariants.{AllDifferent, Circuit, Inverse}
use Rattle.fzn_meaning.specs.declared.row.Listed.{Listed}
use Rattle.fzn_meaning.specs.Separable.{listed_at}

-- the price of a value, the first price being that of the number low; 0 of a value without one
abbrev pub price_in : List ℤ → ℤ → ℤ
price_in prices (pos k) = slice_index_or prices k (pos 0)
price_in prices (negsuc k) = pos 0

abbrev pub price_at : ℤ → List ℤ → ℤ → ℤ
price_at low prices value = price_in prices (value -ℤ low)

-- what was listed for each value that has a price, and the price; none for a value that is barred
abbrev pub entries_from : ℤ → List ℤ → Option Listed → List (Option ℤ)
entries_from low [] old = []
entries_from low (price ∷ prices) old = option_map (λ w. w +ℤ price) (listed_at old low) ∷ entries_from (low +ℤ pos 1) prices old

-- ---- what so many places that are all different cost at the most

abbrev pub total_price : List ℤ → ℤ
total_price [] = pos 0
total_price (price ∷ prices) = price +ℤ total_price prices

-- the least price, and 0 where none is below it
abbrev pub least_price : List ℤ → ℤ
least_price [] = pos 0
least_price (price ∷ prices) = int_min price (least_price prices)

-- all prices, less the least one for each value that no place has
abbrev pub most_cost : ℕ → List ℤ → ℤ
most_cost places prices = total_price prices -ℤ (pos (length prices) -ℤ pos places) *ℤ least_price prices

-- ---- which constraints have prices

-- the places of which no two have one value
abbrev pub priced_places : Constraint → Option (List Term)
priced_places (AllDifferent places) = Some places
priced_places (Circuit successors) = Some successors
priced_places (Inverse forward backward) = Some forward
priced_places _ = None

abbrev pub is_set_within : ℤ → ℤ → IntSet → Bool
is_set_within low high set = nat_eq (size set) 0 || (int_le low (least set) && int_le (greatest set) high)

abbrev pub is_term_within : List IntSet → ℤ → ℤ → Term → Bool
is_term_within declared low high (Constant k) = int_le low k && int_le k high
is_term_within declared low high (Variable var) = is_set_within low high (set_of declared var)

-- each value that a place may have where the constraint is met has a price
abbrev pub has_each_price : List IntSet → ℤ → List ℤ → Constraint → Bool
has_each_price declared low prices (AllDifferent places) = list_all (is_term_within declared low (low +ℤ pos (length prices) -ℤ pos 1)) places
has_each_price declared low prices (Circuit successors) = int_eq low (pos 1) && nat_eq (length prices) (length successors)
has_each_price declared low prices (Inverse forward backward) = int_eq low (pos 1) && nat_eq (length prices) (length forward)
has_each_price declared low prices _ = false

abbrev pub is_price : ℤ → Bool
is_price price = nat_le (unsigned_abs price) 1000000000000

-- at most 65,536 prices from -10^12 to 10^12, the first for a number from -10^9 to 10^9
abbrev pub are_prices : ℤ → List ℤ → Bool
are_prices low prices = nat_le (unsigned_abs low) 1000000000 && nat_le (length prices) 65536 && list_all is_price prices
