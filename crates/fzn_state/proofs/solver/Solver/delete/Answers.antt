-- Nothing that is held or stands has one of the steps.
use Rattle.std.proofs.Common.{◌+◌, inr, refl}
use Rattle.fzn_state.proofs.DeleteLemmas.{delete-spelled, delete-logged, deleted-reduced}
use Rattle.fzn_state.proofs.solver.Solver.delete.Goals as goal

pub step-requires-clause-spelled : goal.step-requires-clause-spelled
step-requires-clause-spelled g c = delete-spelled c.requires.ready.state c.in-Some.is c.in_ok-found.ensures.deletion

pub step-requires-clause-accepted : goal.step-requires-clause-accepted
step-requires-clause-accepted g c = delete-logged c.requires.ready.state c.in-Some.is c.in_ok-found.ensures.deletion _ (inr refl)

pub returns-in_err-step-clause-left : goal.returns-in_err-step-clause-left
returns-in_err-step-clause-left g c =
    let accepted = delete-logged c.requires.ready.state c.in-Some.is c.in_ok-found.ensures.deletion (g.S.Sink.written c.step.new.self) c.step.ensures.logged in
    record { accepted = accepted; kept = c.step.ensures.kept; same = c.step.ensures.same }

pub returns-clause-left : goal.returns-clause-left
returns-clause-left g c =
    let accepted = delete-logged c.requires.ready.state c.in-Some.is c.in_ok-found.ensures.deletion (g.S.Sink.written c.step.new.self) c.step.ensures.logged in
    record { accepted = accepted; kept = c.step.ensures.kept; same = c.step.ensures.same }

pub returns-clause-reduced : goal.returns-clause-reduced
returns-clause-reduced g c =
    deleted-reduced c.requires.ready.state c.in-Some.is c.in_ok-found.ensures.deletion c.in_ok-step.ensures.ok c.in_ok-step.ensures.few (c.args.self.now.steps + 1) refl c.next_deletion.new.written c.in_ok-found.ensures.thinned c.next_deletion.new.notes
