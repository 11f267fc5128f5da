use Rattle.fzn_clauses.specs.Watching.{held_by}
use Rattle.fzn_reduction.proofs.DeletionLemmas.{AreOfHeld}
use Rattle.fzn_reduction.proofs.idle.numbers_of_held.Given as goal

abbrev pub invariant-loop-i : goal.invariant-loop-i
invariant-loop-i l = AreOfHeld (held_by l.clauses) l.numbers l.found.items l.i
