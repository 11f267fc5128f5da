use Rattle.std.proofs.Common.{refl, subst}
use Rattle.std.specs.List.{All}
use Rattle.std.proofs.lemmas.List.{take_all}
use Rattle.std.proofs.lemmas.List.Elements.{All-more}
use Rattle.fzn_domain.specs.declared.literal.Lit.{Lit}
use Rattle.fzn_domain.specs.Limits.{IsInLimits}
use Rattle.fzn_domain.specs.Narrow.{IsVariable}
use Rattle.fzn_learned.proofs.trial.is_in_range.Goals as goal

pub loop-lit-preserved : goal.loop-lit-preserved
loop-lit-preserved c = record {
  over = All-more (λ (lit : Lit). IsVariable c.args.vars lit.var) c.args.clause.now c.loop-lit.lit-index _ c.loop-lit-test.true c.loop-lit.invariant.over (c.if-not-is_allowed.ensures.over refl);
  in_limits = All-more (λ (lit : Lit). IsInLimits lit.value) c.args.clause.now c.loop-lit.lit-index _ c.loop-lit-test.true c.loop-lit.invariant.in_limits (c.if-not-is_allowed.ensures.in_limits refl);
}

pub returns-clause-over : goal.returns-clause-over
returns-clause-over c h = subst (All (λ (lit : Lit). IsVariable c.args.vars lit.var)) (take_all c.loop-lit.lit-index c.args.clause.now c.loop-lit-test.false) c.loop-lit.invariant.over

pub returns-clause-in_limits : goal.returns-clause-in_limits
returns-clause-in_limits c h = subst (All (λ (lit : Lit). IsInLimits lit.value)) (take_all c.loop-lit.lit-index c.args.clause.now c.loop-lit-test.false) c.loop-lit.invariant.in_limits
