use Rattle.fzn_cumulative.specs.Loads.{cumulative_of}
use Rattle.fzn_cumulative.proofs.load_pass.find_capacity.Goals as goal
use Rattle.fzn_cumulative.specs.Passes.{tasks_of, AreFoundOfCumulative}
use Rattle.fzn_cumulative.proofs.load_pass.find_capacity.Goals.{After-hand_over}

-- what is handed over is justified
found : (c : After-hand_over) → AreFoundOfCumulative c.args.pass.now c.hand_over.new.self
found c =
    let justified = rw c.if-branch.true at c.in_ok-push_capacity.ensures in
    c.hand_over.ensures.found c.args.pass.now.trail.now (cumulative_of (tasks_of c.args.pass.now)) justified c.requires

pub returns-in_err-hand_over : goal.returns-in_err-hand_over
returns-in_err-hand_over c = found (goal.at.returns-in_err-hand_over c).After-hand_over

pub returns-in_ok-hand_over : goal.returns-in_ok-hand_over
returns-in_ok-hand_over c = found (goal.at.returns-in_ok-hand_over c).After-hand_over
