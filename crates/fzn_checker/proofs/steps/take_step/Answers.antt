use Rattle.std.proofs.Common.{subst}
use Rattle.fzn_cert.specs.Accepted.{IsJudged}
use Rattle.fzn_cert.proofs.SoundLaws.{sound-after}
use Rattle.fzn_checker.proofs.steps.take_step.Goals as goal

pub returns-clause-sound : goal.returns-clause-sound
returns-clause-sound c =
    λ _. rw c.in_ok-accept.ensures.after
    (sound-after c.args.model.now c.args.history.now c.args.step c.requires.ready.well_formed c.requires.ready.sound
    (subst (IsJudged c.args.model.now c.args.history.now c.args.step) c.in_default.is c.in_ok-fault.ensures.judged))
