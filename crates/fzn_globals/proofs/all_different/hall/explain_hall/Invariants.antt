use Rattle.std.specs.List.{All}
use Rattle.fzn_globals.specs.DifferentPasses.{IsJustifiedByHall}
use Rattle.fzn_globals.proofs.all_different.hall.explain_hall.Given as goal

abbrev pub invariant-loop-k : goal.invariant-loop-k
invariant-loop-k l = All (IsJustifiedByHall l.pass l.span.low l.span.high) l.clauses.items
