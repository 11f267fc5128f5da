use Rattle.fzn_arithmetic.specs.Passes.{AreFoundOfShape}
use Rattle.fzn_arithmetic.proofs.pass.Pass.part_results.Given as goal

abbrev pub invariant-loop-value : goal.invariant-loop-value
invariant-loop-value l = AreFoundOfShape l.self l.found
