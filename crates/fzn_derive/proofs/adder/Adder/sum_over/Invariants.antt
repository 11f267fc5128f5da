use Rattle.std.proofs.Common.{◌≡◌, length, map, take}
use Rattle.std.specs.List.{filter}
use Rattle.fzn_values.specs.Term.{weighted}
use Rattle.fzn_derive.specs.Merged.{has_weight}
use Rattle.fzn_derive.specs.Room.{sum_place}
use Rattle.fzn_derive.proofs.adder.Adder.sum_over.Given as goal

abbrev pub invariant-loop-place : goal.invariant-loop-place
invariant-loop-place l = record {
  even : length l.numbers ≡ length l.terms;
  so_far : weighted l.numbers l.terms ≡ filter has_weight (map (sum_place l.self) (take l.place-index l.order));
}
