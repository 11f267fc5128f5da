use Rattle.fzn_linear.specs.Kinds.{form_of_sum}
use Rattle.fzn_linear.proofs.PassLemmas.{ok_then, left_alone}
use Rattle.fzn_linear.proofs.pass.Pass.find.Goals as goal

pub returns-in-Some-clause-none : goal.returns-in-Some-clause-none
returns-in-Some-clause-none c =
    ok_then c.hold.result c.hold.ensures.none
    (λ left empty. left_alone c.args.self.now.trail.now.sets (form_of_sum c.args.self.now.form.now) c.in-Some.on c.in-Some.ensures.value (left empty))
