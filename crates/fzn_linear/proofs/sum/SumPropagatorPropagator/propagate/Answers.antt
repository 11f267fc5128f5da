use Rattle.fzn_linear.specs.Kinds.{IsFormOf}
use Rattle.fzn_linear.proofs.PassLemmas.{still_inferences}
use Rattle.fzn_linear.proofs.sum.SumPropagatorPropagator.propagate.Goals as goal

pub returns-clause-found : goal.returns-clause-found
returns-clause-found c =
    let form = c.args.self.now.form in
    still_inferences c.args.self.now.number form c.args.trail.now (λ constraint. IsFormOf constraint c.args.self.now.form) (λ constraint is. is) c.args.found.now c.infer.new.found c.requires.before c.infer.ensures.adds
