use Rattle.fzn_linear.specs.Equality.{EqualityIsFor}
use Rattle.fzn_linear.proofs.PassLemmas.{still_inferences}
use Rattle.fzn_linear.proofs.equality.EqualityPropagatorPropagator.propagate.Goals as goal

pub returns-in_err-infer-clause-found : goal.returns-in_err-infer-clause-found
returns-in_err-infer-clause-found c =
    let sum = c.args.self.now.sum in
    still_inferences sum.number sum.form c.args.trail.now (EqualityIsFor c.args.self.now) (λ constraint is. is.by_form) c.args.found.now c.infer.new.found c.requires.before c.infer.ensures.adds

pub returns-then-not-is_empty-clause-found : goal.returns-then-not-is_empty-clause-found
returns-then-not-is_empty-clause-found c =
    let sum = c.args.self.now.sum in
    still_inferences sum.number sum.form c.args.trail.now (EqualityIsFor c.args.self.now) (λ constraint is. is.by_form) c.args.found.now c.infer.new.found c.requires.before c.infer.ensures.adds
