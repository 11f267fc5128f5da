use Rattle.std.proofs.Common.{sym, ap, ◌∙◌}
use Rattle.fzn_weights.specs.Inverses.{place_in}
use Rattle.fzn_row.specs.Room.{room_size}
use Rattle.fzn_row.proofs.InversesSound.{place-variable}
use Rattle.fzn_row.proofs.TableLemmas.{table-formed}
use Rattle.fzn_row.proofs.room.RowDeriver.move_to_table.Goals as goal

pub move_to_rows-requires-clause-places : goal.move_to_rows-requires-clause-places
move_to_rows-requires-clause-places c = (table-formed (room_size c.args.self.now) c.args.constraint.now c.in-Table.places c.in-Table.rows c.in-Table.is c.requires.constraint).0

pub move_to_rows-requires-clause-numbers : goal.move_to_rows-requires-clause-numbers
move_to_rows-requires-clause-numbers c = (table-formed (room_size c.args.self.now) c.args.constraint.now c.in-Table.places c.in-Table.rows c.in-Table.is c.requires.constraint).2

pub move_to_rows-requires-clause-few : goal.move_to_rows-requires-clause-few
move_to_rows-requires-clause-few c = (table-formed (room_size c.args.self.now) c.args.constraint.now c.in-Table.places c.in-Table.rows c.in-Table.is c.requires.constraint).3

pub move_to_rows-requires-clause-whole : goal.move_to_rows-requires-clause-whole
move_to_rows-requires-clause-whole c = (table-formed (room_size c.args.self.now) c.args.constraint.now c.in-Table.places c.in-Table.rows c.in-Table.is c.requires.constraint).4

pub move_to_rows-requires-clause-var : goal.move_to_rows-requires-clause-var
move_to_rows-requires-clause-var c =
    let terms = (table-formed (room_size c.args.self.now) c.args.constraint.now c.in-Table.places c.in-Table.rows c.in-Table.is c.requires.constraint).0.0 in
    place-variable (room_size c.args.self.now) c.args.var c.in-Table.places c.in-Some.column terms (ap (place_in c.args.var) (sym c.as_slice.ensures) ∙ sym c.place_in.ensures ∙ c.in-Some.is)
