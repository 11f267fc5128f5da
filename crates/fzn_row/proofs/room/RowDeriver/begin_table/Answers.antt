use Rattle.std.proofs.Common.{sym, subst}
use Rattle.fzn_meaning.specs.Solutions.{declared_sets}
use Rattle.fzn_row.specs.Room.{IsTableKept}
use Rattle.fzn_row.proofs.TableLemmas.{blank-kept}
use Rattle.fzn_row.proofs.room.RowDeriver.begin_table.Goals as goal

pub put_table-requires-clause-part : goal.put_table-requires-clause-part
put_table-requires-clause-part c = subst IsTableKept (sym c.in_ok-part.ensures) (blank-kept (declared_sets c.args.vars.now) c.args.places.now c.args.rows.now c.requires.numbers c.requires.few)
