use Rattle.fzn_builtin.specs.Passes.{AreFoundOfMembership}
use Rattle.fzn_builtin.proofs.member.Pass.part_misfits.Given as goal

abbrev pub invariant-loop-interval : goal.invariant-loop-interval
invariant-loop-interval l = AreFoundOfMembership l.self l.found
