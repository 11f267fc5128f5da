use Rattle.std.proofs.Common.{◌≡◌, List, ℤ, false, sym, subst}
use Rattle.fzn_cert.specs.declared.step.Step.{Step}
use Rattle.fzn_cert.specs.Accepted.{IsAccepted}
use Rattle.fzn_checker.specs.Given.{given_by, is_given}
use Rattle.fzn_checker.proofs.GivenLemmas.{new-passes}
use Rattle.fzn_checker.proofs.steps.accept.Goals as goal

-- an accepted solution passes the cuts of those before it
pub note-requires-clause-new : goal.note-requires-clause-new
note-requires-clause-new c = λ satisfy.
    let accepted = subst (λ (step : Step). IsAccepted c.args.model.now c.args.history.now step) c.in-Solution.is c.requires.accepted in
    subst (λ (values : List ℤ). is_given c.args.given.now (given_by c.args.model.now.outputs values) ≡ false) (sym c.as_slice-in-Solution.ensures)
    (new-passes c.args.model.now c.args.history.now.solutions c.args.given.now c.in-Solution.values satisfy c.requires.given accepted.1)
