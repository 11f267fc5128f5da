use Rattle.std.proofs.Common.{◌-◌}
use Rattle.fzn_domain.proofs.CountLemmas.{Searching}
use Rattle.fzn_domain.proofs.allowed.Values.nth.Given as goal

abbrev pub invariant-loop-from : goal.invariant-loop-from
invariant-loop-from l = Searching l.low l.high l.self l.place l.from l.upto

abbrev pub decreases-loop-from : goal.decreases-loop-from
decreases-loop-from l = l.upto - l.from
