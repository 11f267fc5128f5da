use Rattle.std.proofs.Common.{refl, subst}
use Rattle.std.specs.List.{All}
use Rattle.std.proofs.lemmas.List.Elements.{All-more}
use Rattle.std.proofs.lemmas.List.{take_all}
use Rattle.fzn_meaning.specs.Meaning.{Meets}
use Rattle.fzn_meaning.proofs.model.meets_all.Goals as goal

-- the constraints so far, and one more
pub loop-constraint-preserved : goal.loop-constraint-preserved
loop-constraint-preserved c =
    All-more (λ constraint. Meets constraint c.args.values.now) c.args.constraints.now c.loop-constraint.constraint-index c.constraint-item.result
    c.loop-constraint-test.true c.loop-constraint.invariant
    (subst (λ constraint. Meets constraint c.args.values.now) c.constraint-item.is (c.if-not-holds.ensures.0 refl))

pub returns : goal.returns
returns c =
    (λ h. subst (λ xs. All (λ constraint. Meets constraint c.args.values.now) xs) (take_all c.loop-constraint.constraint-index c.args.constraints.now c.loop-constraint-test.false) c.loop-constraint.invariant, λ h. refl)
