use Rattle.std.proofs.Common.{◌≡◌, take, Ok}
use Rattle.fzn_row.specs.Draft.{in_turn}
use Rattle.fzn_row.specs.Multiples.{multiple_added}
use Rattle.fzn_row.specs.Room.{draft_of, room_size, IsRoom}
use Rattle.fzn_row.proofs.room.RowDeriver.add_multiples.Given as goal

abbrev pub invariant-loop-multiple : goal.invariant-loop-multiple
invariant-loop-multiple l = record {
  room : IsRoom l.self;
  variables : room_size l.self ≡ room_size l.fn.self;
  so_far : in_turn (multiple_added l.given) (draft_of l.fn.self) (take l.multiple-index l.multiples) ≡ Ok (draft_of l.self);
}
