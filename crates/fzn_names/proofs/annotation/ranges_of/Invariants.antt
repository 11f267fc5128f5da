use Rattle.std.proofs.Common.{◌≡◌, ◌++◌, length}
use Rattle.fzn_names.specs.Annotations.{ranges_in}
use Rattle.fzn_names.proofs.annotation.ranges_of.Given as goal

-- those so far, and those to come
abbrev pub invariant-loop-terms : goal.invariant-loop-terms
invariant-loop-terms l = l.ranges ++ ranges_in l.terms ≡ ranges_in l.initial.terms

abbrev pub decreases-loop-terms : goal.decreases-loop-terms
decreases-loop-terms l = length l.terms
