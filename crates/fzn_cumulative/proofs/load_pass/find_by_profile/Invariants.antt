use Rattle.fzn_cumulative.proofs.load_pass.find_by_profile.Given as goal
use Rattle.fzn_cumulative.specs.Passes.{AreFoundOfCumulative}

abbrev pub invariant-loop-way : goal.invariant-loop-way
invariant-loop-way l = AreFoundOfCumulative l.pass l.found
