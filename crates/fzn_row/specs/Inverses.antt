-- The part of a place of an inverse, moved to the places of the other list.
use Rattle.std.specs.Prelude.{ℕ, ◌+◌, ℤ, pos, ◌+ℤ◌, ◌-ℤ◌, if◌then◌else◌, nat_le, List, [], ◌∷◌, length, Option, Result, Ok, Err}
use Rattle.std.specs.Option.{option_map_or}
use Rattle.std.specs.Ordering.{int_eq}
use Rattle.fzn_domain.specs.declared.literal.VarId.{VarId}
use Rattle.fzn_values.specs.declared.term.Term.{Term}
use Rattle.fzn_values.specs.declared.term.Term.TheVariants.{Constant, Variable}
use Rattle.fzn_cited.specs.declared.fault.DeriveFault.{DeriveFault}
use Rattle.fzn_cited.specs.declared.fault.DeriveFault.TheVariants.{NotDerived}
use Rattle.fzn_meaning.specs.declared.row.VariablePart.{VariablePart}
use Rattle.fzn_meaning.specs.Separable.{weight_at}
use Rattle.fzn_weights.specs.Inverses.{raised_from, place_in}
use Rattle.fzn_row.specs.Draft.{Draft, part_for, with_bound, and_then}
use Rattle.fzn_row.specs.Prices.{with_list}
use Rattle.fzn_row.specs.Weights.{without_part}

-- at a variable the value weighs so much more; a constant that is the value takes it from the bound, and no other constant does anything
abbrev pub place_raised : ℕ → ℤ → Option ℤ → Draft → Term → Result Draft DeriveFault
place_raised count value more draft (Constant k) = if int_eq k value then option_map_or (λ w. with_bound (draft.bound -ℤ w) draft) more (Err NotDerived) else Ok draft
place_raised count value more draft (Variable var) = with_list var draft (pos 1) (raised_from (pos 1) count value more (part_for var draft.parts).listed)

-- at each place, of which the first has this number, the value weighs as much more as the part does at the number of the place
abbrev pub places_raised : VariablePart → ℕ → ℤ → ℤ → Draft → List Term → Result Draft DeriveFault
places_raised part count value number draft [] = Ok draft
places_raised part count value number draft (place ∷ places) =
    and_then (place_raised count value (weight_at part number) draft place) (λ next. places_raised part count value (number +ℤ pos 1) next places)

-- what the variable weighs as this place, counted from 0, of the one list, the at most 65,536 places of the other weigh
abbrev pub moved_back : VarId → Draft → List Term → ℕ → Result Draft DeriveFault
moved_back var draft places place =
    if nat_le (length places) 65536 then places_raised (part_for var draft.parts) (length places) (pos (place + 1)) (pos 1) (without_part var draft) places else Err NotDerived

-- by its first place in the second list, or in the first where it has none there
abbrev pub inverse_moved : VarId → Draft → List Term → List Term → Result Draft DeriveFault
inverse_moved var draft forward backward = option_map_or (moved_back var draft forward) (place_in var backward)
    (option_map_or (moved_back var draft backward) (place_in var forward) (Err NotDerived))
