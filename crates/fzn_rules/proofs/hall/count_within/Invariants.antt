use Rattle.std.proofs.Common.{◌≡◌, ◌≤◌, take}
use Rattle.std.specs.List.{count_by}
use Rattle.fzn_rules.specs.Hall.{lies_within}
use Rattle.fzn_rules.proofs.hall.count_within.Given as goal

abbrev pub invariant-loop-place : goal.invariant-loop-place
invariant-loop-place l = record {
  so_far : l.count ≡ count_by (lies_within l.sets.present l.low l.high) (take l.place-index l.places);
  bounded : l.count ≤ l.place-index;
}
