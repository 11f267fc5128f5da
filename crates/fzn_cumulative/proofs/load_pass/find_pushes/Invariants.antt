use Rattle.fzn_cumulative.proofs.load_pass.find_pushes.Given as goal
use Rattle.fzn_cumulative.specs.Passes.{AreFoundOfCumulative}

abbrev pub invariant-loop-k : goal.invariant-loop-k
invariant-loop-k l = AreFoundOfCumulative l.pass l.found
