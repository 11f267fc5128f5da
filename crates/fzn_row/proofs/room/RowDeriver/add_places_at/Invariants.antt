use Rattle.std.proofs.Common.{◌≡◌, take, Ok}
use Rattle.fzn_row.specs.Draft.{in_turn}
use Rattle.fzn_row.specs.Prices.{price_added}
use Rattle.fzn_row.specs.Room.{draft_of, room_size, IsRoom}
use Rattle.fzn_row.proofs.room.RowDeriver.add_places_at.Given as goal

abbrev pub invariant-loop-place : goal.invariant-loop-place
invariant-loop-place l = record {
  room : IsRoom l.self;
  variables : room_size l.self ≡ room_size l.fn.self;
  so_far : in_turn (price_added l.low l.prices) (draft_of l.fn.self) (take l.place-index l.places) ≡ Ok (draft_of l.self);
}
