use Rattle.std.proofs.Common.{rules, ◌≡◌, w64, to_z, of_z, FitsSigned}
use Rattle.std.proofs.lemmas.Int.{to_z-of_z}
use Rattle.fzn_cumulative.specs.Loads.{cumulative_of}
use Rattle.fzn_cumulative.specs.Passes.{tasks_of, AreFoundOfCumulative}
use Rattle.fzn_cumulative.proofs.energy_pass.find_energy.Goals as goal
use Rattle.fzn_cumulative.proofs.energy_pass.find_energy.Goals.{After-hand_over}

-- what is handed over is justified
found : (c : After-hand_over) → AreFoundOfCumulative c.args.pass.now c.hand_over.new.self
found c =
    let fits_from : FitsSigned w64 c.in-Some.span.from = search rules in
    let fits_until : FitsSigned w64 c.in-Some.span.until = search rules in
    let from : to_z w64 (of_z w64 c.in-Some.span.from) ≡ c.in-Some.span.from = to_z-of_z w64 c.in-Some.span.from fits_from in
    let until : to_z w64 (of_z w64 c.in-Some.span.until) ≡ c.in-Some.span.until = to_z-of_z w64 c.in-Some.span.until fits_until in
    let justified = rw c.if-branch.true at c.in_ok-explain_energy.ensures in
    c.hand_over.ensures.found c.args.pass.now.trail.now (cumulative_of (tasks_of c.args.pass.now)) (rw (from, until) justified) c.requires

pub returns-in_err-hand_over : goal.returns-in_err-hand_over
returns-in_err-hand_over c = found (goal.at.returns-in_err-hand_over c).After-hand_over

pub returns-in_ok-hand_over : goal.returns-in_ok-hand_over
returns-in_ok-hand_over c = found (goal.at.returns-in_ok-hand_over c).After-hand_over
