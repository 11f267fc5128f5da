use Rattle.std.proofs.Common.{take}
use Rattle.fzn_meaning.specs.Solutions.{declared_sets}
use Rattle.fzn_derive.specs.Parity.{AreAllAdded}
use Rattle.fzn_derive.proofs.parity.add_all.Given as goal

-- those so far are added
abbrev pub invariant-loop-i : goal.invariant-loop-i
invariant-loop-i l = AreAllAdded l.given (declared_sets l.vars) (take l.i l.ids) l.numbers.items l.is_odd
