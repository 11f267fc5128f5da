-- The room in which a row is made.
use Rattle.std.specs.Prelude.{◌≡◌, ◌≢◌, ℕ, ◌-◌, ◌*◌, ◌<◌, ◌≤◌, List, length, slice_index_or, slice_set, Some}
use Rattle.std.specs.List.{All}
use Rattle.fzn_domain.specs.declared.literal.VarId.{VarId}
use Rattle.fzn_list.specs.Limits.{longest}
use Rattle.fzn_domain.specs.Limits.{IsInLimits}
use Rattle.fzn_meaning.specs.declared.row.VariablePart.{VariablePart}
use Rattle.fzn_meaning.specs.declared.row.TablePart.{TablePart}
use Rattle.fzn_meaning.specs.Separable.{IsVariablePart, IsWithinLimit}
use Rattle.fzn_row.specs.declared.room.BegunTable.{BegunTable}
use Rattle.fzn_row.specs.declared.room.RowDeriver.{RowDeriver}
use Rattle.fzn_row.specs.Draft.{Draft, part_for, with_part}
use Rattle.fzn_row.specs.Tables.{table_of, with_table}

abbrev pub draft_of : RowDeriver → Draft
draft_of room = record { parts = room.parts.items; tables = room.tables.items; bound = room.bound; left = room.left }

-- how many variables there is room for
abbrev pub room_size : RowDeriver → ℕ
room_size room = length room.slots.items

-- each part is found by the slot of its variable
abbrev pub AreFound : List ℕ → List VariablePart → Type 0
AreFound slots parts = (place : ℕ) (part : VariablePart) → place < length parts → slice_index_or parts place part ≡ part → slice_index_or slots (part.var.0 - 1) 0 ≡ place

-- no part is of the variable
abbrev pub IsAbsent : VarId → List VariablePart → Type 0
IsAbsent var parts = All (λ part. part.var.0 ≢ var.0) parts

-- the numbers of its rows are within the limits, and no more of them weigh than a list may have
pub record IsTableKept (part : TablePart) : Type 0 where
  pub numbers : All IsInLimits part.rows
  pub few : length part.weights * length part.places ≤ longest

-- so of each part of a table, which is found by the slot of its constraint's number
pub record AreBegun (slots : List ℕ) (tables : List BegunTable) : Type 0 where
  pub parts : All (λ begun. IsTableKept begun.part) tables
  pub found : (place : ℕ) (begun : BegunTable) → place < length tables → slice_index_or tables place begun ≡ begun → slice_index_or slots begun.constraint 0 ≡ place

pub record IsRoom (room : RowDeriver) : Type 0 where
  pub parts : All (IsVariablePart (room_size room)) room.parts.items
  pub found : AreFound room.slots.items room.parts.items
  pub tables : AreBegun room.table_slots.items room.tables.items
  pub bound : IsWithinLimit room.bound

-- at this place stands the part that the variable had, or a blank one where it had none; whatever replaces it replaces the variable's
pub record IsPlaceOfPart (var : VarId) (before after : List VariablePart) (place : ℕ) : Type 0 where
  pub inside : place < length after
  pub same : after ≡ with_part (part_for var before) before
  pub here : (d : VariablePart) → slice_index_or after place d ≡ part_for var before
  pub replaced : (part : VariablePart) → part.var ≡ var → slice_set after place part ≡ with_part part before

-- at this place stands the part of the table of this number; whatever replaces it replaces the table's
pub record IsPlaceOfTable (id : ℕ) (tables : List BegunTable) (place : ℕ) : Type 0 where
  pub inside : place < length tables
  pub here : (d : BegunTable) → table_of id tables ≡ Some (slice_index_or tables place d).part
  pub number : (d : BegunTable) → (slice_index_or tables place d).constraint ≡ id
  pub replaced : (new : BegunTable) → new.constraint ≡ id → slice_set tables place new ≡ with_table new tables
