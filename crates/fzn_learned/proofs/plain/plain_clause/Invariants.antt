use Rattle.std.proofs.Common.{◌≡◌, take}
use Rattle.fzn_learned.specs.Reasoned.{negated_decisions}
use Rattle.fzn_learned.proofs.plain.plain_clause.Given as goal

abbrev pub invariant-loop-i : goal.invariant-loop-i
invariant-loop-i l = l.clause ≡ negated_decisions l.trail.declared (take l.i l.trail.entries)
