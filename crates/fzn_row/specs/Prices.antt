-- Prices of values that are all different, added to a row.
use Rattle.std.specs.Prelude.{ℕ, ◌-◌, ℤ, ◌+ℤ◌, ◌-ℤ◌, ◌&&◌, if◌then◌else◌, nat_le, List, length, Option, Some, Result, Ok, Err}
use Rattle.std.specs.List.{list_all}
use Rattle.std.specs.Option.{option_map_or}
use Rattle.fzn_domain.specs.declared.literal.VarId.{VarId}
use Rattle.fzn_domain.specs.IntSet.{IntSet}
use Rattle.fzn_values.specs.declared.term.Term.{Term}
use Rattle.fzn_values.specs.declared.term.Term.TheVariants.{Constant, Variable}
use Rattle.fzn_meaning.specs.declared.constraint.Constraint.{Constraint}
use Rattle.fzn_cited.specs.declared.fault.DeriveFault.{DeriveFault}
use Rattle.fzn_cited.specs.declared.fault.DeriveFault.TheVariants.{NoSuchConstraint, NotDerived}
use Rattle.fzn_cited.specs.Cited.{constraint_at}
use Rattle.fzn_weights.specs.Limits.{is_entry_within}
use Rattle.fzn_weights.specs.Prices.{price_at, entries_from, most_cost, priced_places, has_each_price, are_prices}
use Rattle.fzn_row.specs.Draft.{Draft, part_for, with_part, with_bound, and_then, in_turn}

-- the draft with this list for the variable, unless too many weights were listed or that leaves the limits
abbrev pub with_list : VarId → Draft → ℤ → List (Option ℤ) → Result Draft DeriveFault
with_list var draft low entries =
    if nat_le (length entries) draft.left && list_all is_entry_within entries
    then Ok (record draft { parts = with_part (record (part_for var draft.parts) { listed = Some (record { low = low; weights = entries }) }) draft.parts; left = draft.left - length entries })
    else Err NotDerived

-- a place that is a constant takes its price from the bound; at a variable each value weighs its price more, and one without a price is barred
abbrev pub price_added : ℤ → List ℤ → Draft → Term → Result Draft DeriveFault
price_added low prices draft (Constant k) = with_bound (draft.bound -ℤ price_at low prices k) draft
price_added low prices draft (Variable var) = with_list var draft low (entries_from low prices (part_for var draft.parts).listed)

-- the prices of the places of a constraint, and what they cost at the most
abbrev pub prices_added : List Constraint → List IntSet → Draft → ℕ → ℤ → List ℤ → Result Draft DeriveFault
prices_added given declared draft id low prices = option_map_or
    (λ constraint. option_map_or
    (λ places. if are_prices low prices && has_each_price declared low prices constraint
    then and_then (in_turn (price_added low prices) draft places) (λ next. with_bound (next.bound +ℤ most_cost (length places) prices) next)
    else Err NotDerived)
    (priced_places constraint) (Err NotDerived))
    (constraint_at given id) (Err NoSuchConstraint)
