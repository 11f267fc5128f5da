use Rattle.fzn_reduction.proofs.DeletionLemmas.{AreIdle}
use Rattle.fzn_reduction.proofs.idle.idle_among.Given as goal

abbrev pub invariant-loop-i : goal.invariant-loop-i
invariant-loop-i l = AreIdle l.alive l.used l.ids l.last
