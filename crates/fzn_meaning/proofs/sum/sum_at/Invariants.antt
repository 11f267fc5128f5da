use Rattle.std.proofs.Common.{◌≡◌, ◌*◌, ◌≤◌, take, unsigned_abs}
use Rattle.fzn_values.specs.Term.{sum_at}
use Rattle.fzn_meaning.proofs.sum.sum_at.Given as goal

abbrev pub invariant-loop-i : goal.invariant-loop-i
invariant-loop-i l = record {
  so_far : l.sum ≡ sum_at l.values (take l.i l.places);
  bounded : unsigned_abs l.sum ≤ l.i * 9223372036854775808000000000;
}
