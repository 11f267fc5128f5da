use Rattle.std.proofs.Common.{◌≡◌, true}
use Rattle.fzn_domain.specs.IntSet.{contains}
use Rattle.fzn_equality.proofs.pair.first_difference.Given as goal

abbrev pub invariant-loop : goal.invariant-loop
invariant-loop l = (contains l.set l.value ≡ true) × (contains l.other l.value ≡ true)
