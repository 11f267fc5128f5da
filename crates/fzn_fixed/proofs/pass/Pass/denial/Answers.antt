use Rattle.std.proofs.Common.{◌+◌, List, take, sym, subst, ◌∙◌, pos}
use Rattle.fzn_domain.specs.declared.literal.Lit.{Lit}
use Rattle.fzn_values.specs.declared.term.Term.{Term}
use Rattle.fzn_values.specs.declared.term.Term.TheVariants.{Constant}
use Rattle.fzn_fixed.specs.Denial.{IsDenial}
use Rattle.fzn_fixed.proofs.DenialLemmas.{denial_push, denial_same}
use Rattle.fzn_fixed.proofs.pass.Pass.denial.Goals as goal
use Rattle.fzn_fixed.proofs.pass.Pass.denial.Goals.{in-Some+in_ok-push, in_default}

pub loop-term-preserved : goal.loop-term-preserved
loop-term-preserved c =
    let trail = c.args.self.now.trail.now in
    let terms = c.args.self.now.inputs.now in
    let i = c.loop-term.term-index in
    let at : Term = Constant (pos 0) in
    let below = c.loop-term-test.true in
    elim c.match-other_value.branch [
      | in-Some+in_ok-push w ↦
          subst (λ (xs : List Lit). IsDenial trail (take (i + 1) terms) xs) (sym w.in_ok-push.ensures.ok ∙ sym w.clause-is)
          (denial_push trail terms i c.loop-term.clause at below w.in-Some.lit (c.args.self.now.inputs_fit i at below) c.loop-term.invariant w.in-Some.ensures.found)
      | in_default w ↦
          subst (λ (xs : List Lit). IsDenial trail (take (i + 1) terms) xs) (sym w.clause-is)
          (denial_same trail terms i c.loop-term.clause at below c.loop-term.invariant w.in_default.ensures.none)
    ]
