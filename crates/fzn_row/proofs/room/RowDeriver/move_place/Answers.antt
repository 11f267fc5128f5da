use Rattle.std.proofs.Common.{sym, ◌∙◌}
use Rattle.fzn_row.specs.Room.{room_size}
use Rattle.fzn_row.proofs.InversesSound.{place-variable}
use Rattle.fzn_row.proofs.room.RowDeriver.move_place.Goals as goal

pub move_back-requires-clause-var : goal.move_back-requires-clause-var
move_back-requires-clause-var c =
    place-variable (room_size c.args.self.now) c.args.var c.args.backward.now c.in-Some.place c.requires.backward.0 (sym c.place_in.ensures ∙ c.in-Some.is)

pub move_back-requires-in-Some-place_in-clause-var : goal.move_back-requires-in-Some-place_in-clause-var
move_back-requires-in-Some-place_in-clause-var c =
    place-variable (room_size c.args.self.now) c.args.var c.args.forward.now c.in-Some-place_in.place c.requires.forward.0 (sym c.place_in-2.ensures ∙ c.in-Some-place_in.is)
