use Rattle.std.proofs.Common.{◌≡◌, take}
use Rattle.fzn_clauses.specs.Slots.{gathered}
use Rattle.fzn_clauses.proofs.arena.gathered.Given as goal

abbrev pub invariant-loop-i : goal.invariant-loop-i
invariant-loop-i l = l.all.items ≡ gathered l.lits (take l.i l.slots)
