use Rattle.fzn_row.specs.Room.{room_size}
use Rattle.fzn_row.proofs.InverseTerms.{inverse-terms}
use Rattle.fzn_row.proofs.room.RowDeriver.move_by.Goals as goal

pub move_place-requires-clause-forward : goal.move_place-requires-clause-forward
move_place-requires-clause-forward c = rw c.as_slice.ensures (inverse-terms (room_size c.args.self.now) c.args.constraint.now c.in-Inverse.forward c.in-Inverse.backward c.requires.constraint c.in-Inverse.is).0

pub move_place-requires-clause-backward : goal.move_place-requires-clause-backward
move_place-requires-clause-backward c = rw c.as_slice-in-Inverse.ensures (inverse-terms (room_size c.args.self.now) c.args.constraint.now c.in-Inverse.forward c.in-Inverse.backward c.requires.constraint c.in-Inverse.is).1
