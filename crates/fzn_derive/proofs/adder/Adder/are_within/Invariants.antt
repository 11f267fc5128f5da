use Rattle.std.proofs.Common.{All, take}
use Rattle.fzn_values.specs.declared.term.Place.{Place}
use Rattle.fzn_builtin_rules.specs.Borrowed.{places_in}
use Rattle.fzn_derive.specs.Room.{IsTermWithin}
use Rattle.fzn_derive.proofs.adder.Adder.are_within.Given as goal

abbrev pub invariant-loop-i : goal.invariant-loop-i
invariant-loop-i l = All (λ (place : Place). IsTermWithin l.self place.term) (take l.i (places_in l.places))
