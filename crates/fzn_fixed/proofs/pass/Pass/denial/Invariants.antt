use Rattle.std.proofs.Common.{take}
use Rattle.fzn_fixed.specs.Denial.{IsDenial}
use Rattle.fzn_fixed.proofs.pass.Pass.denial.Given as goal

abbrev pub invariant-loop-term : goal.invariant-loop-term
invariant-loop-term l = IsDenial l.self.trail.now (take l.term-index l.self.inputs.now) l.clause
