use Rattle.std.proofs.Common.{◌≡◌, true, pos}
use Rattle.fzn_domain.specs.IntSet.{contains, width}
use Rattle.fzn_domain.specs.Limits.{IsInLimits}
use Rattle.fzn_rules.proofs.RunLemmas.{HasBelow}
use Rattle.fzn_rules.proofs.cut.has_all.Given as goal

-- the number is a member, and the members below it are there
abbrev pub invariant-loop-low : goal.invariant-loop-low
invariant-loop-low l = record { member : contains l.domain l.low ≡ true; in_limits : IsInLimits l.low; done : HasBelow l.domain l.places l.low }

abbrev pub decreases-loop-low : goal.decreases-loop-low
decreases-loop-low l = width l.low (pos 1000000000)
