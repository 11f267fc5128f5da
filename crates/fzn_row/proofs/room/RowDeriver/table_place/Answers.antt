use Rattle.std.proofs.Common.{arith, ◌<◌, length, sym, ap, ◌∙◌}
use Rattle.std.proofs.lemmas.List.{get_or_read}
use Rattle.fzn_row.specs.declared.room.BegunTable.{BegunTable}
use Rattle.fzn_row.proofs.TableLemmas.{table-found, table-none}
use Rattle.fzn_row.proofs.room.RowDeriver.table_place.Goals as goal

pub returns-then-slot-len : goal.returns-then-slot-len
returns-then-slot-len c =
    let room = c.args.self.now in
    table-none c.args.id c.slot_at-slot.result room.table_slots.items room.tables.items c.requires.room.tables c.slot_at-slot.ensures (λ inside d same. let past = c.if-slot-len.true in omega arith)

pub returns-then-index-id : goal.returns-then-index-id
returns-then-index-id c =
    let room = c.args.self.now in
    table-none c.args.id c.slot_at-slot.result room.table_slots.items room.tables.items c.requires.room.tables c.slot_at-slot.ensures
    (λ inside d same. c.if-index-id.true (ap (λ (b : BegunTable). b.constraint) (get_or_read room.tables.items c.slot_at-slot.result c.index.result.now inside c.index.ensures d) ∙ same))

pub returns : goal.returns
returns c =
    let room = c.args.self.now in
    let slot = c.slot_at-slot.result in
    let inside : slot < length room.tables.items = omega arith in
    table-found c.args.id slot room.table_slots.items room.tables.items c.requires.room.tables c.slot_at-slot.ensures inside
    (λ d. sym (ap (λ (b : BegunTable). b.constraint) (get_or_read room.tables.items slot c.index.result.now inside c.index.ensures d)) ∙ c.if-index-id.false)
