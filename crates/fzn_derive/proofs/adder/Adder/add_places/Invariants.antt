use Rattle.std.proofs.Common.{◌≡◌, length, take, ◌-ℤ◌}
use Rattle.fzn_builtin_rules.specs.Borrowed.{places_in}
use Rattle.fzn_derive.specs.Merged.{constant_of}
use Rattle.fzn_derive.specs.Summed.{times}
use Rattle.fzn_derive.specs.Room.{ListsTouched, IsAdded}
use Rattle.fzn_derive.proofs.adder.Adder.add_places.Given as goal

abbrev pub invariant-loop-i : goal.invariant-loop-i
invariant-loop-i l = record {
  listed : ListsTouched l.self;
  len : length l.self.cells.items ≡ length l.fn.self.cells.items;
  added : IsAdded l.fn.self l.self (times l.multiplier (take l.i (places_in l.places)));
  left_is : l.left ≡ l.bound -ℤ constant_of (times l.multiplier (take l.i (places_in l.places)));
}
