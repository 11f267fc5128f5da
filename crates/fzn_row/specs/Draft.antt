-- A row in the making, and what is changed in it.
use Rattle.std.specs.Prelude.{ℕ, ◌+◌, ℤ, pos, if◌then◌else◌, nat_eq, nat_le, List, [], ◌∷◌, ◌++◌, map, length, None, Result, Ok, Err}
use Rattle.fzn_list.specs.Limits.{longest}
use Rattle.fzn_domain.specs.declared.literal.VarId.{VarId}
use Rattle.fzn_cited.specs.declared.fault.DeriveFault.{DeriveFault}
use Rattle.fzn_cited.specs.declared.fault.DeriveFault.TheVariants.{NotDerived}
use Rattle.fzn_meaning.specs.declared.row.VariablePart.{VariablePart}
use Rattle.fzn_meaning.specs.declared.row.Part.TheVariants.{Variable, Table}
use Rattle.fzn_meaning.specs.declared.row.Row.{Row}
use Rattle.fzn_weights.specs.Limits.{is_row_number, is_coefficient}
use Rattle.fzn_row.specs.declared.room.BegunTable.{BegunTable}

-- its parts of variables and of tables and its bound, and how many weights may still be listed
pub record Draft : Type 0 where
  pub parts : List VariablePart
  pub tables : List BegunTable
  pub bound : ℤ
  pub left : ℕ

-- no part, the bound 0, and so many weights that may be listed
abbrev pub empty : ℕ → Draft
empty most = record { parts = []; tables = []; bound = pos 0; left = most }

abbrev pub row_of : Draft → Row
row_of draft = record { parts = map Variable draft.parts ++ map (λ begun. Table begun.part) draft.tables; bound = draft.bound }

-- a part at which the variable weighs 0 at each value
abbrev pub blank_part : VarId → VariablePart
blank_part var = record { var = var; coefficient = pos 0; listed = None }

-- the part of the variable, which is a blank one where it has none
abbrev pub part_for : VarId → List VariablePart → VariablePart
part_for var [] = blank_part var
part_for var (part ∷ parts) = if nat_eq part.var.0 var.0 then part else part_for var parts

-- the same parts with this one in place of that of its variable, or behind the others where its variable had none
abbrev pub with_part : VariablePart → List VariablePart → List VariablePart
with_part new [] = new ∷ []
with_part new (part ∷ parts) = if nat_eq part.var.0 new.var.0 then new ∷ parts else part ∷ with_part new parts

-- the draft with another bound, or with another coefficient of the variable, unless that leaves the limits
abbrev pub with_bound : ℤ → Draft → Result Draft DeriveFault
with_bound bound draft = if is_row_number bound then Ok (record draft { bound = bound }) else Err NotDerived

abbrev pub with_coefficient : VarId → ℤ → Draft → Result Draft DeriveFault
with_coefficient var coefficient draft =
    if is_coefficient coefficient then Ok (record draft { parts = with_part (record (part_for var draft.parts) { coefficient = coefficient }) draft.parts }) else Err NotDerived

-- the row that it is, unless it has more parts than a row may have
abbrev pub row_stated : Draft → Result Row DeriveFault
row_stated draft = if nat_le (length draft.parts + length draft.tables) longest then Ok (row_of draft) else Err NotDerived

-- ---- one change after another, up to the first that is refused

abbrev pub and_then : {A B : Type 0} → Result A DeriveFault → (A → Result B DeriveFault) → Result B DeriveFault
and_then (Ok x) next = next x
and_then (Err fault) next = Err fault

abbrev pub in_turn : {A : Type 0} → (Draft → A → Result Draft DeriveFault) → Draft → List A → Result Draft DeriveFault
in_turn change draft [] = Ok draft
in_turn change draft (x ∷ xs) = and_then (change draft x) (λ next. in_turn change next xs)
