use Rattle.std.proofs.Common.{arith}
use Rattle.fzn_clauses.proofs.state.state_beside.Goals as goal

pub returns-in-Some : goal.returns-in-Some
returns-in-Some c = record {
  first = c.requires.possible;
  second = c.in-Some.ensures.found.possible;
  apart = λ e. omega (arith, e, c.in-Some.ensures.found.from_there);
}
