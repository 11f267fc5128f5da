use Rattle.std.proofs.Common.{List, Option, IfSome, sym, subst}
use Rattle.fzn_domain.specs.declared.literal.Lit.{Lit}
use Rattle.fzn_propagator.specs.Clause.{IsJustified}
use Rattle.fzn_propagator.specs.Inference.{AreFoundOf}
use Rattle.fzn_cert.specs.declared.step.Inference.{Inference}
use Rattle.fzn_propagator.proofs.FoundLemmas.{found_push}
use Rattle.fzn_propagator.proofs.findings.Findings.hand_over.Goals as goal

pub returns-clause-found : goal.returns-clause-found
returns-clause-found c = λ trail constraint justified before.
    subst (λ (xs : List Inference). AreFoundOf c.args.number constraint trail xs) (sym c.in_ok-push.ensures.ok)
    (found_push c.args.number constraint trail c.args.self.now c.args.rule c.in-Some.clause c.requires.hints (subst (λ (o : Option (List Lit)). IfSome o (IsJustified trail constraint c.args.rule)) c.in-Some.is justified) before)

pub returns-in_err-push-clause-found : goal.returns-in_err-push-clause-found
returns-in_err-push-clause-found c = λ trail constraint justified before.
    subst (λ (xs : List Inference). AreFoundOf c.args.number constraint trail xs) (sym c.in_err-push.ensures.err) before
