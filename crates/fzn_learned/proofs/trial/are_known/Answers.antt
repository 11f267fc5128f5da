use Rattle.std.proofs.Common.{refl, subst}
use Rattle.std.specs.List.{All}
use Rattle.std.proofs.lemmas.List.{take_all}
use Rattle.std.proofs.lemmas.List.Elements.{All-more}
use Rattle.fzn_learned.specs.Reasoned.{known_of, IsKnown}
use Rattle.fzn_learned.proofs.trial.are_known.Goals as goal

pub loop-antecedent-preserved : goal.loop-antecedent-preserved
loop-antecedent-preserved c =
    All-more (IsKnown (known_of c.args.clauses.now c.args.inferences.now)) c.args.antecedents.now c.loop-antecedent.antecedent-index _ c.loop-antecedent-test.true c.loop-antecedent.invariant (c.if-not-is_known.ensures refl)

pub returns : goal.returns
returns c h =
    subst (All (IsKnown (known_of c.args.clauses.now c.args.inferences.now))) (take_all c.loop-antecedent.antecedent-index c.args.antecedents.now c.loop-antecedent-test.false) c.loop-antecedent.invariant
