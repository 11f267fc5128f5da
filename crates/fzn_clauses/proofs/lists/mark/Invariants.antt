use Rattle.std.proofs.Common.{◌≡◌, ℕ, ◌+◌, ◌-◌, false, length, get_or}
use Rattle.fzn_clauses.proofs.lists.mark.Given as goal

abbrev pub invariant-loop-marks : goal.invariant-loop-marks
invariant-loop-marks l = (other : ℕ) → get_or l.marks.items other false ≡ get_or l.initial.marks.items other false

abbrev pub decreases-loop-marks : goal.decreases-loop-marks
decreases-loop-marks l = l.key + 1 - length l.marks.items
