use Rattle.fzn_separable.specs.Passes.{AreFoundOfRow}
use Rattle.fzn_separable.proofs.search.find_by_leasts.Given as goal

abbrev pub invariant-loop-k : goal.invariant-loop-k
invariant-loop-k l = AreFoundOfRow l.pass l.found
