use Rattle.fzn_globals.specs.InversePasses.{inverse_constraint, AreFoundOfInverse}
use Rattle.fzn_globals.proofs.inverse.find_at.Goals as goal
use Rattle.fzn_globals.proofs.inverse.find_at.Goals.{After-hand_over}

-- what is handed over is justified
found : (c : After-hand_over) → AreFoundOfInverse c.args.pass.now c.hand_over.new.self
found c = c.hand_over.ensures.found c.args.pass.now.trail.now (inverse_constraint c.args.pass.now) (rw c.in-Some.is at c.in_ok-clause.ensures.found) c.requires.before

pub returns-in-Some-clause-found : goal.returns-in-Some-clause-found
returns-in-Some-clause-found c = found (goal.at.returns-in-Some-clause-found c).After-hand_over

pub returns-in_err-hand_over-clause-found : goal.returns-in_err-hand_over-clause-found
returns-in_err-hand_over-clause-found c = found (goal.at.returns-in_err-hand_over-clause-found c).After-hand_over
