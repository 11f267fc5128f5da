use Rattle.fzn_arithmetic.specs.Passes.{AreFoundOfShape}
use Rattle.fzn_arithmetic.proofs.pass.Pass.part_values.Given as goal

abbrev pub invariant-loop : goal.invariant-loop
invariant-loop l = AreFoundOfShape l.self l.found
