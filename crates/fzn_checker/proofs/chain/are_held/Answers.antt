use Rattle.std.proofs.Common.{refl, subst}
use Rattle.std.specs.List.{All}
use Rattle.std.proofs.lemmas.List.{take_all}
use Rattle.std.proofs.lemmas.List.Elements.{All-more}
use Rattle.fzn_cert.specs.Past.{IsClauseHeld}
use Rattle.fzn_checker.proofs.chain.are_held.Goals as goal

pub loop-id-preserved : goal.loop-id-preserved
loop-id-preserved c =
    All-more (IsClauseHeld c.args.history.now) c.args.ids.now c.loop-id.id-index 0 c.loop-id-test.true c.loop-id.invariant (c.if-not-is_held.ensures.0 refl)

pub returns : goal.returns
returns c = (λ h. subst (All (IsClauseHeld c.args.history.now)) (take_all c.loop-id.id-index c.args.ids.now c.loop-id-test.false) c.loop-id.invariant, λ h. refl)
