use Rattle.fzn_equality.specs.ElementPasses.{AreFoundOfElement}
use Rattle.fzn_equality.proofs.element.pass.ElementPass.bound_value.Given as goal

abbrev pub invariant-loop-k : goal.invariant-loop-k
invariant-loop-k l = AreFoundOfElement l.self l.found
