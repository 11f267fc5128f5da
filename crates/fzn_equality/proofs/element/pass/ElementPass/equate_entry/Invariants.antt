use Rattle.fzn_equality.specs.ElementPasses.{AreFoundOfElement}
use Rattle.fzn_equality.proofs.element.pass.ElementPass.equate_entry.Given as goal

abbrev pub invariant-loop-k : goal.invariant-loop-k
invariant-loop-k l = AreFoundOfElement l.self l.found
