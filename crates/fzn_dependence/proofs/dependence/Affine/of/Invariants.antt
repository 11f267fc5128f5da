use Rattle.std.proofs.Common.{◌*◌, ◌≤◌, take, unsigned_abs}
use Rattle.fzn_builtin_rules.specs.Borrowed.{places_in}
use Rattle.fzn_dependence.proofs.DecidedLemmas.{AreParts}
use Rattle.fzn_dependence.proofs.dependence.Affine.of.Given as goal

abbrev pub invariant-loop-i : goal.invariant-loop-i
invariant-loop-i l = record {
  so_far : AreParts l.var l.rest l.coefficient l.besides (take l.i (places_in l.places));
  rest_bounded : unsigned_abs l.rest ≤ l.i * 10000000000000000000000000000;
  coefficient_bounded : unsigned_abs l.coefficient ≤ l.i * 1000000000;
  besides_bounded : unsigned_abs l.besides ≤ l.i * 1000000000;
}
