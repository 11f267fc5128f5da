use Rattle.std.proofs.Common.{◌≡◌, take, Ok}
use Rattle.fzn_builtin_rules.specs.Borrowed.{places_in}
use Rattle.fzn_row.specs.Draft.{in_turn}
use Rattle.fzn_row.specs.Multiples.{place_added}
use Rattle.fzn_row.specs.Room.{draft_of, room_size, IsRoom}
use Rattle.fzn_row.proofs.room.RowDeriver.add_places.Given as goal

abbrev pub invariant-loop-i : goal.invariant-loop-i
invariant-loop-i l = record {
  room : IsRoom l.self;
  variables : room_size l.self ≡ room_size l.fn.self;
  so_far : in_turn (place_added l.multiplier) (draft_of l.fn.self) (take l.i (places_in l.places)) ≡ Ok (draft_of l.self);
}
