use Rattle.fzn_trail_tests.specs.Carried.{IsCarried}
use Rattle.fzn_trail_tests.proofs.second_opinion.walk.Given as goal

abbrev pub invariant-loop : goal.invariant-loop
invariant-loop l = IsCarried l.tested.clauses l.tested.trail
