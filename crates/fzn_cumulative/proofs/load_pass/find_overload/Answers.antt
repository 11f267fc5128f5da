use Rattle.std.proofs.Common.{rules, ◌≡◌, w64, to_z, of_z, FitsSigned}
use Rattle.std.proofs.lemmas.Int.{to_z-of_z}
use Rattle.fzn_cumulative.specs.Loads.{cumulative_of}
use Rattle.fzn_cumulative.specs.Passes.{tasks_of, AreFoundOfCumulative}
use Rattle.fzn_cumulative.proofs.load_pass.find_overload.Goals as goal
use Rattle.fzn_cumulative.proofs.load_pass.find_overload.Goals.{After-hand_over}

-- what is handed over is justified
found : (c : After-hand_over) → AreFoundOfCumulative c.args.pass.now c.hand_over.new.self
found c =
    let fits : FitsSigned w64 c.args.time.now = search rules in
    let same : to_z w64 (of_z w64 c.args.time.now) ≡ c.args.time.now = to_z-of_z w64 c.args.time.now fits in
    let justified = rw c.if-not-branch.false at c.in_ok-explain_load.ensures in
    c.hand_over.ensures.found c.args.pass.now.trail.now (cumulative_of (tasks_of c.args.pass.now)) (rw same justified) c.requires.before

pub returns-in_err-hand_over-clause-found : goal.returns-in_err-hand_over-clause-found
returns-in_err-hand_over-clause-found c = found (goal.at.returns-in_err-hand_over-clause-found c).After-hand_over

pub returns-clause-found : goal.returns-clause-found
returns-clause-found c = found (goal.at.returns-clause-found c).After-hand_over
