use Rattle.fzn_arithmetic.specs.Passes.{AreFoundOfShape}
use Rattle.fzn_arithmetic.proofs.pass.Pass.find_ends.Given as goal

abbrev pub invariant-loop-excluded : goal.invariant-loop-excluded
invariant-loop-excluded l = AreFoundOfShape l.self l.found
