use Rattle.std.proofs.Common.{subst, refl}
use Rattle.fzn_cert.specs.declared.step.Version.TheVariants.{Two}
use Rattle.fzn_cert.specs.Accepted.{IsAccepted, IsJudged}
use Rattle.fzn_checker.proofs.HoldLemmas.{take-more, taken-more}
use Rattle.fzn_checker.proofs.StandingLaws.{bounds-spelled}
use Rattle.fzn_checker.proofs.hold.Taken.take.Goals as goal

pub fault_of-requires-clause-bounds : goal.fault_of-requires-clause-bounds
fault_of-requires-clause-bounds c = bounds-spelled Two c.args.step c.requires.spelled

pub returns-clause-ready : goal.returns-clause-ready
returns-clause-ready c = λ _.
    let model = c.args.model.now in
    let old = c.args.self.now in
    let accepted : IsAccepted model old.history c.args.step = subst (IsJudged model old.history c.args.step) c.in_default.is c.in_ok-fault.ensures.judged in
    take-more model old _ c.args.step c.requires.ready accepted c.in_ok-accept.ensures.after c.in_ok-accept.ensures.given c.fault_of.ensures.same refl

pub returns-clause-taken : goal.returns-clause-taken
returns-clause-taken c = λ _.
    let model = c.args.model.now in
    let old = c.args.self.now in
    let accepted : IsAccepted model old.history c.args.step = subst (IsJudged model old.history c.args.step) c.in_default.is c.in_ok-fault.ensures.judged in
    taken-more model old _ c.args.step accepted c.in_ok-accept.ensures.after
    (take-more model old _ c.args.step c.requires.ready accepted c.in_ok-accept.ensures.after c.in_ok-accept.ensures.given c.fault_of.ensures.same refl)
