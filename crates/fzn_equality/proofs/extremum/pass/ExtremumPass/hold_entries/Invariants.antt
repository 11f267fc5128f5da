use Rattle.fzn_equality.specs.ExtremumPasses.{AreFoundOfExtremum}
use Rattle.fzn_equality.proofs.extremum.pass.ExtremumPass.hold_entries.Given as goal

abbrev pub invariant-loop-k : goal.invariant-loop-k
invariant-loop-k l = AreFoundOfExtremum l.self l.found
