use Rattle.std.proofs.Common.{arith}
use Rattle.fzn_clauses.proofs.StandLemmas.{some_possible, only_possible}
use Rattle.fzn_clauses.proofs.state.state_before.Goals as goal

pub returns-then-start-place : goal.returns-then-start-place
returns-then-start-place c = record {
  first = c.requires.possible;
  second = c.in-Some.ensures.found.possible;
  apart = λ e. omega (arith, e, c.if-start-place.true);
}

pub returns-else-start-place : goal.returns-else-start-place
returns-else-start-place c =
    only_possible c.args.trail.now.sets c.args.clause.now c.args.place c.requires.possible c.in-Some.start c.requires.behind c.in-Some.ensures.found c.if-start-place.false

pub returns-in-None : goal.returns-in-None
returns-in-None c = absurd (some_possible c.args.trail.now.sets c.args.clause.now c.args.place c.requires.possible c.in-None.ensures.none)
