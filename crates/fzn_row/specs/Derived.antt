-- Which row the items make.
use Rattle.std.specs.Prelude.{◌≡◌, ℕ, List, [], ◌∷◌, map, Result, Ok, Err}
use Rattle.std.specs.List.{flat_map}
use Rattle.fzn_domain.specs.IntSet.{IntSet}
use Rattle.fzn_meaning.specs.declared.constraint.Constraint.{Constraint}
use Rattle.fzn_cited.specs.declared.fault.DeriveFault.{DeriveFault}
use Rattle.fzn_meaning.specs.declared.row.Row.{Row}
use Rattle.fzn_row.specs.declared.item.RowItem.{RowItem}
use Rattle.fzn_row.specs.declared.item.RowItem.TheVariants as item
use Rattle.fzn_row.specs.Draft.{Draft, empty, row_stated, and_then, in_turn}
use Rattle.fzn_row.specs.Multiples.{multiple_added}
use Rattle.fzn_row.specs.Prices.{prices_added}
use Rattle.fzn_row.specs.Moves.{move_added}
use Rattle.fzn_row.specs.Tables.{columns_added, rows_added}

-- the numbers of the constraints that the items cite
abbrev pub cited_by : RowItem → List ℕ
cited_by (item.Multiples multiples) = map (λ multiple. multiple.constraint) multiples
cited_by (item.Prices constraint low prices) = constraint ∷ []
cited_by (item.Move constraint variable) = constraint ∷ []
cited_by (item.Columns constraint column low prices) = constraint ∷ []
cited_by (item.Rows constraint variable) = constraint ∷ []

abbrev pub all_cited : List RowItem → List ℕ
all_cited items = flat_map cited_by items

-- what an item makes of a row
abbrev pub item_added : List Constraint → List IntSet → Draft → RowItem → Result Draft DeriveFault
item_added given declared draft (item.Multiples multiples) = in_turn (multiple_added given) draft multiples
item_added given declared draft (item.Prices constraint low prices) = prices_added given declared draft constraint low prices
item_added given declared draft (item.Move constraint variable) = move_added given declared draft constraint variable
item_added given declared draft (item.Columns constraint column low prices) = columns_added given declared draft constraint column low prices
item_added given declared draft (item.Rows constraint variable) = rows_added given declared draft constraint variable

-- what all of them make of none
abbrev pub drafted : List Constraint → List IntSet → ℕ → List RowItem → Result Draft DeriveFault
drafted given declared most items = in_turn (item_added given declared) (empty most) items

-- the row that they make, or the first thing that is wrong
abbrev pub row_made : List Constraint → List IntSet → ℕ → List RowItem → Result Row DeriveFault
row_made given declared most items = and_then (drafted given declared most items) row_stated

-- the items make this row
abbrev pub IsDerivedRow : List Constraint → List IntSet → ℕ → List RowItem → Row → Type 0
IsDerivedRow given declared most items row = row_made given declared most items ≡ Ok row

-- the first thing that is wrong with them
abbrev pub IsRowFault : List Constraint → List IntSet → ℕ → List RowItem → DeriveFault → Type 0
IsRowFault given declared most items fault = row_made given declared most items ≡ Err fault
