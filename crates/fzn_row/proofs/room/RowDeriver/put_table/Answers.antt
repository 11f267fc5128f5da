use Rattle.std.proofs.Common.{arith, ◌≡◌, length, ◌∙◌}
use Rattle.fzn_row.proofs.TableLemmas.{slot-free, begun-push}
use Rattle.fzn_row.proofs.room.RowDeriver.put_table.Goals as goal

pub returns-in_err-put_slot-clause-room : goal.returns-in_err-put_slot-clause-room
returns-in_err-put_slot-clause-room c =
    let room = c.args.self.now in
    record {
      parts = c.requires.room.parts;
      found = c.requires.room.found;
      tables = slot-free c.args.id room.table_slots.items _ room.tables.items c.requires.room.tables c.requires.none c.put_slot.ensures.others;
      bound = c.requires.room.bound;
    }

pub returns-in_err-push-clause-room : goal.returns-in_err-push-clause-room
returns-in_err-push-clause-room c =
    let room = c.args.self.now in
    record {
      parts = c.requires.room.parts;
      found = c.requires.room.found;
      tables = rw c.in_err-push.ensures.items (slot-free c.args.id room.table_slots.items _ room.tables.items c.requires.room.tables c.requires.none c.put_slot.ensures.others);
      bound = c.requires.room.bound;
    }

pub returns-clause-room : goal.returns-clause-room
returns-clause-room c =
    let room = c.args.self.now in
    let at : c.len-place.result ≡ length room.tables.items = omega arith in
    record {
      parts = c.requires.room.parts;
      found = c.requires.room.found;
      tables = rw c.in_ok-push.ensures.items (begun-push c.args.id room.table_slots.items _ room.tables.items c.requires.room.tables c.requires.none c.put_slot.ensures.others c.args.part c.requires.part (c.in_ok-put_slot.ensures.here ∙ at));
      bound = c.requires.room.bound;
    }
