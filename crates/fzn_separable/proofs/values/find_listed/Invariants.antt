use Rattle.fzn_separable.specs.Passes.{AreFoundOfRow}
use Rattle.fzn_separable.proofs.values.find_listed.Given as goal

abbrev pub invariant-loop-i : goal.invariant-loop-i
invariant-loop-i l = AreFoundOfRow l.pass l.found
