use Rattle.std.proofs.Common.{map, take}
use Rattle.fzn_cert.specs.declared.step.Version.TheVariants.{Two}
use Rattle.fzn_cert.specs.Verdict.{AllHaveLines}
use Rattle.fzn_checker.specs.Held.{HasTaken}
use Rattle.fzn_core.specs.Planned.{planned_step}
use Rattle.fzn_core.proofs.trial.is_trim.Given as goal

abbrev pub invariant-loop-before : goal.invariant-loop-before
invariant-loop-before l =
    let steps = map (planned_step l.plan l.held.steps) (take l.before l.plan.lines.items) in
    HasTaken l.model steps l.taken × AllHaveLines Two 0 steps
