use Rattle.std.proofs.Common.{◌≡◌, ◌*◌, ◌≤◌, ◌+ℤ◌, drop, map, unsigned_abs}
use Rattle.fzn_values.specs.declared.term.Place.{Place}
use Rattle.fzn_builtin_rules.specs.Choices.{weighted_sum}
use Rattle.fzn_builtin_rules.specs.Numbered.{choice_at}
use Rattle.fzn_builtin_rules.proofs.chosen.weighted_sum.Given as goal

-- the sum so far and that of the places left
abbrev pub invariant-loop-i : goal.invariant-loop-i
invariant-loop-i l = record {
  summed : weighted_sum l.places (choice_at l.sets.present (map (λ (place : Place). place.term) l.places) l.fn.number) ≡ l.sum +ℤ weighted_sum (drop l.i l.places) (choice_at l.sets.present (map (λ (place : Place). place.term) (drop l.i l.places)) l.left);
  bounded : unsigned_abs l.sum ≤ l.i * 1000000000000000000;
}
