use Rattle.std.proofs.Common.{List, length, All}
use Rattle.fzn_values.specs.declared.term.Place.{Place}
use Rattle.fzn_values.specs.Term.{IsPlace}
use Rattle.fzn_trail.specs.Levels.{Levels}
use Rattle.fzn_sum.specs.Explained.{AreFloors, HasFloors}
use Rattle.fzn_sum.proofs.at_most.explain.Given as goal

abbrev pub invariant-loop-i : goal.invariant-loop-i
invariant-loop-i l = (trail : Levels) (places : List Place) → All (IsPlace (length trail.declared)) places → AreFloors trail places (length places) l.floors → HasFloors trail places l.floors l.i l.except l.clause
