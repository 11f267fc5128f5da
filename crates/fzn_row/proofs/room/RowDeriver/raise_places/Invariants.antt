use Rattle.std.proofs.Common.{◌≡◌, length, take, pos, Ok}
use Rattle.fzn_row.specs.Inverses.{places_raised}
use Rattle.fzn_row.specs.Room.{draft_of, room_size, IsRoom}
use Rattle.fzn_row.proofs.room.RowDeriver.raise_places.Given as goal

abbrev pub invariant-loop-i : goal.invariant-loop-i
invariant-loop-i l = record {
  room : IsRoom l.self;
  variables : room_size l.self ≡ room_size l.fn.self;
  so_far : places_raised l.part (length l.places) l.value (pos 1) (draft_of l.fn.self) (take l.i l.places) ≡ Ok (draft_of l.self);
}
