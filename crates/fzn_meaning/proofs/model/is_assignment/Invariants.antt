use Rattle.std.proofs.Common.{◌≡◌, ℕ, ◌<◌, true, pos, get_or}
use Rattle.fzn_domain.specs.IntSet.{contains, no_values}
use Rattle.fzn_meaning.specs.Solutions.{declared_sets}
use Rattle.fzn_meaning.proofs.model.is_assignment.Given as goal

abbrev pub invariant-loop-i : goal.invariant-loop-i
invariant-loop-i l = (k : ℕ) → k < l.i → contains (get_or (declared_sets l.vars) k no_values) (get_or l.values k (pos 0)) ≡ true
