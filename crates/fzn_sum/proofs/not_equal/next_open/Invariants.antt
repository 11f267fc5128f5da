use Rattle.std.specs.List.{AllWithin}
use Rattle.fzn_propagator.specs.Barred.{GivesOne}
use Rattle.fzn_sum.proofs.not_equal.next_open.Given as goal

abbrev pub invariant-loop-i : goal.invariant-loop-i
invariant-loop-i l = AllWithin (GivesOne l.trail.sets) l.places l.from l.i
