use Rattle.fzn_linear.specs.Kinds.{form_of_sum}
use Rattle.fzn_linear.proofs.FormLemmas.{sum_alone}
use Rattle.fzn_linear.proofs.PassLemmas.{ok_then}
use Rattle.fzn_linear.proofs.sum.SumPropagator.infer.Goals as goal

pub returns-clause-none : goal.returns-clause-none
returns-clause-none c =
    let ready = c.requires.ready in
    ok_then c.find.result c.find.ensures.none
    (λ alone empty constraint same booleans. sum_alone c.args.trail.now (form_of_sum c.args.self.now.form) constraint same booleans ready.on.places_fit ready.switch_fits (alone empty))
