-- Tables: prices of the entries at a column, and the part of a variable, moved to the rows at which it stands.
use Rattle.std.specs.Prelude.{ℕ, ◌-◌, ℤ, pos, ◌+ℤ◌, ◌-ℤ◌, ◌&&◌, if◌then◌else◌, nat_eq, nat_le, List, [], ◌∷◌, ◌++◌, length, slice_index_or, Option, None, Some, Result, Ok, Err}
use Rattle.std.specs.List.{list_all}
use Rattle.std.specs.Option.{option_map_or}
use Rattle.fzn_domain.specs.declared.literal.VarId.{VarId}
use Rattle.fzn_domain.specs.IntSet.{IntSet, least}
use Rattle.fzn_domain.specs.Narrow.{set_of}
use Rattle.fzn_values.specs.declared.term.Term.{Term}
use Rattle.fzn_values.specs.declared.term.Term.TheVariants.{Constant, Variable}
use Rattle.fzn_meaning.specs.declared.constraint.Constraint.{Constraint}
use Rattle.fzn_meaning.specs.declared.constraint.Constraint.TheVariants.{Table}
use Rattle.fzn_cited.specs.declared.fault.DeriveFault.{DeriveFault}
use Rattle.fzn_cited.specs.declared.fault.DeriveFault.TheVariants.{NoSuchConstraint, NotDerived}
use Rattle.fzn_cited.specs.Cited.{constraint_at}
use Rattle.fzn_meaning.specs.declared.row.TablePart.{TablePart}
use Rattle.fzn_meaning.specs.Separable.{weight_at}
use Rattle.fzn_weights.specs.Prices.{price_at, are_prices}
use Rattle.fzn_weights.specs.Limits.{is_entry_within}
use Rattle.fzn_weights.specs.Inverses.{place_in}
use Rattle.fzn_weights.specs.Moves.{moved_from, span, is_narrow}
use Rattle.fzn_weights.specs.Tables.{row_count, blank_table, part_raised}
use Rattle.fzn_row.specs.declared.room.BegunTable.{BegunTable}
use Rattle.fzn_row.specs.Draft.{Draft, part_for, with_bound, and_then}
use Rattle.fzn_row.specs.Prices.{with_list}
use Rattle.fzn_row.specs.Weights.{without_part}

-- ---- the part of a table

-- the part of the table of this number, where it has been begun
abbrev pub table_of : ℕ → List BegunTable → Option TablePart
table_of id [] = None
table_of id (begun ∷ later) = if nat_eq begun.constraint id then Some begun.part else table_of id later

-- the same tables with this one in place of that of its number, or behind the others where there was none
abbrev pub with_table : BegunTable → List BegunTable → List BegunTable
with_table new [] = new ∷ []
with_table new (begun ∷ later) = if nat_eq begun.constraint new.constraint then new ∷ later else begun ∷ with_table new later

-- the draft in which the table has a part: the one that it had, or a blank one behind the others
abbrev pub table_begun : List IntSet → ℕ → List Term → List ℤ → Draft → Draft
table_begun declared id places rows draft = option_map_or (λ part. draft) (table_of id draft.tables)
    (record draft { tables = draft.tables ++ record { constraint = id; part = blank_table declared places rows } ∷ [] })

-- the draft in which so many weights fewer may be listed, unless that is more than may be
abbrev pub weights_spent : ℕ → Draft → Result Draft DeriveFault
weights_spent count draft = if nat_le count draft.left then Ok (record draft { left = draft.left - count }) else Err NotDerived

-- ---- what its rows weigh

-- the draft in which the rows of the table weigh so much more, unless that leaves the limits
abbrev pub table_raised : ℕ → (ℤ → Option ℤ) → ℕ → Draft → Result Draft DeriveFault
table_raised id more column draft = option_map_or
    (λ part. if list_all is_entry_within (part_raised more column part).weights
    then Ok (record draft { tables = with_table (record { constraint = id; part = part_raised more column part }) draft.tables })
    else Err NotDerived)
    (table_of id draft.tables) (Err NotDerived)

-- ---- prices of a column

-- a place that is a constant adds its price to the bound; at a variable each value weighs its price less
abbrev pub term_lowered : List IntSet → ℤ → List ℤ → Draft → Term → Result Draft DeriveFault
term_lowered declared low prices draft (Constant k) = with_bound (draft.bound +ℤ price_at low prices k) draft
term_lowered declared low prices draft (Variable var) =
    if is_narrow (set_of declared var)
    then with_list var draft (least (set_of declared var)) (moved_from (λ value. Some (pos 0 -ℤ price_at low prices value)) (least (set_of declared var)) (span (set_of declared var)) (part_for var draft.parts).listed)
    else Err NotDerived

-- each row weighs the price of its entry at the column more, and the place there so much less; each time as many weights are listed as there
-- are rows
abbrev pub column_priced : List IntSet → ℕ → List Term → List ℤ → ℕ → ℤ → List ℤ → Draft → Result Draft DeriveFault
column_priced declared id places rows column low prices draft =
    and_then (weights_spent (row_count places rows) draft) (λ spent.
    and_then (table_raised id (λ entry. Some (price_at low prices entry)) column (table_begun declared id places rows spent)) (λ raised.
    term_lowered declared low prices raised (slice_index_or places column (Constant (pos 0)))))

-- so in a table with a column of this number, counted from 1
abbrev pub columns_priced : List IntSet → ℕ → ℕ → ℤ → List ℤ → Draft → Constraint → Result Draft DeriveFault
columns_priced declared id column low prices draft (Table places rows) =
    if are_prices low prices && nat_le 1 column && nat_le column (length places) then column_priced declared id places rows (column - 1) low prices draft else Err NotDerived
columns_priced declared id column low prices draft _ = Err NotDerived

abbrev pub columns_added : List Constraint → List IntSet → Draft → ℕ → ℕ → ℤ → List ℤ → Result Draft DeriveFault
columns_added given declared draft id column low prices = option_map_or (columns_priced declared id column low prices draft) (constraint_at given id) (Err NoSuchConstraint)

-- ---- what a variable weighs, moved to rows

-- each row weighs as much more as the variable does at its entry at the column, and the variable weighs nothing any more; each time as many
-- weights are listed as there are rows
abbrev pub part_to_rows : List IntSet → ℕ → List Term → List ℤ → ℕ → VarId → Draft → Result Draft DeriveFault
part_to_rows declared id places rows column var draft =
    and_then (weights_spent (row_count places rows) draft) (λ spent.
    and_then (table_raised id (weight_at (part_for var spent.parts)) column (table_begun declared id places rows spent)) (λ raised.
    Ok (without_part var raised)))

-- so in a table at the first place of the variable
abbrev pub moved_to_rows : List IntSet → ℕ → VarId → Draft → Constraint → Result Draft DeriveFault
moved_to_rows declared id var draft (Table places rows) = option_map_or (λ column. part_to_rows declared id places rows column var draft) (place_in var places) (Err NotDerived)
moved_to_rows declared id var draft _ = Err NotDerived

abbrev pub rows_added : List Constraint → List IntSet → Draft → ℕ → VarId → Result Draft DeriveFault
rows_added given declared draft id var = option_map_or (moved_to_rows declared id var draft) (constraint_at given id) (Err NoSuchConstraint)
