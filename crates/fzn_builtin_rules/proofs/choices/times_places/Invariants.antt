use Rattle.std.proofs.Common.{◌≡◌, ◌*◌, ◌<◌, ◌≤◌, drop, map}
use Rattle.fzn_values.specs.declared.term.Place.{Place}
use Rattle.fzn_builtin_rules.specs.Choices.{choices}
use Rattle.fzn_builtin_rules.proofs.choices.times_places.Given as goal

-- what is left of the places makes up for what is left of the product
abbrev pub invariant-loop-i : goal.invariant-loop-i
invariant-loop-i l = record {
  product : l.product * choices l.sets.present (map (λ (place : Place). place.term) (drop l.i l.places)) ≡ choices l.sets.present (map (λ (place : Place). place.term) l.places);
  some : 0 < l.product;
  few : l.product ≤ 4096;
}
