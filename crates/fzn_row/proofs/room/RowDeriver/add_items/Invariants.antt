use Rattle.std.proofs.Common.{◌≡◌, take, Ok}
use Rattle.fzn_meaning.specs.Solutions.{declared_sets}
use Rattle.fzn_row.specs.Draft.{in_turn}
use Rattle.fzn_row.specs.Derived.{item_added}
use Rattle.fzn_row.specs.Room.{draft_of, room_size, IsRoom}
use Rattle.fzn_row.proofs.room.RowDeriver.add_items.Given as goal

abbrev pub invariant-loop-item : goal.invariant-loop-item
invariant-loop-item l = record {
  room : IsRoom l.self;
  variables : room_size l.self ≡ room_size l.fn.self;
  so_far : in_turn (item_added l.given (declared_sets l.vars)) (draft_of l.fn.self) (take l.item-index l.items) ≡ Ok (draft_of l.self);
}
