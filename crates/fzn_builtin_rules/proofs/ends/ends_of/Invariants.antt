use Rattle.std.proofs.Common.{◌≡◌, ◌*◌, ◌≤◌, take, unsigned_abs}
use Rattle.fzn_builtin_rules.specs.Linear.{least_sum, greatest_sum}
use Rattle.fzn_builtin_rules.specs.Borrowed.{places_in}
use Rattle.fzn_builtin_rules.proofs.ends.ends_of.Given as goal

abbrev pub invariant-loop-i : goal.invariant-loop-i
invariant-loop-i l = record {
  least : l.ends.least ≡ least_sum l.sets.present (take l.i (places_in l.places));
  greatest : l.ends.greatest ≡ greatest_sum l.sets.present (take l.i (places_in l.places));
  bounded : unsigned_abs l.ends.least ≤ l.i * 1000000000000000000;
  bounded_above : unsigned_abs l.ends.greatest ≤ l.i * 1000000000000000000;
}
