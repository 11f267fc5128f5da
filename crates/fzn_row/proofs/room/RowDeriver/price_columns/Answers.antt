use Rattle.fzn_row.specs.Room.{room_size}
use Rattle.fzn_row.proofs.TableLemmas.{table-formed}
use Rattle.fzn_row.proofs.room.RowDeriver.price_columns.Goals as goal

pub price_column-requires-clause-places : goal.price_column-requires-clause-places
price_column-requires-clause-places c = (table-formed (room_size c.args.self.now) c.args.constraint.now c.in-Table.places c.in-Table.rows c.in-Table.is c.requires.constraint).0

pub price_column-requires-clause-numbers : goal.price_column-requires-clause-numbers
price_column-requires-clause-numbers c = (table-formed (room_size c.args.self.now) c.args.constraint.now c.in-Table.places c.in-Table.rows c.in-Table.is c.requires.constraint).2

pub price_column-requires-clause-few : goal.price_column-requires-clause-few
price_column-requires-clause-few c = (table-formed (room_size c.args.self.now) c.args.constraint.now c.in-Table.places c.in-Table.rows c.in-Table.is c.requires.constraint).3

pub price_column-requires-clause-whole : goal.price_column-requires-clause-whole
price_column-requires-clause-whole c = (table-formed (room_size c.args.self.now) c.args.constraint.now c.in-Table.places c.in-Table.rows c.in-Table.is c.requires.constraint).4
