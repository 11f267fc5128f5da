use Rattle.std.proofs.Common.{take}
use Rattle.fzn_meaning.specs.Solutions.{declared_sets}
use Rattle.fzn_derive.specs.Parity.{IsSumAdded}
use Rattle.fzn_derive.proofs.parity.add_sum.Given as goal

-- the terms so far are added
abbrev pub invariant-loop-term : goal.invariant-loop-term
invariant-loop-term l = IsSumAdded (declared_sets l.vars) l.initial.numbers.items l.numbers.items (record { terms = take l.term-index l.terms; odd = l.odd }) l.is_odd
