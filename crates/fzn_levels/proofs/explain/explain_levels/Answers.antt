use mir.Syntax.{w128}
use Rattle.std.proofs.Common.{rules, arith, FitsSigned, ◌∙◌, ◌<◌, ◌+◌, sym, ap, subst, List, length, get_or, pos, to_z, of_z}
use Rattle.std.proofs.lemmas.Int.{to_z-of_z}
use Rattle.std.proofs.lemmas.List.{get_or_default}
use Rattle.std.proofs.lemmas.Option.{IfSome_then}
use Rattle.fzn_domain.specs.declared.literal.Lit.{Lit}
use Rattle.fzn_meaning.specs.declared.row.Part.{Part}
use Rattle.fzn_terms.specs.Denied.{IsGrown}
use Rattle.fzn_levels.specs.ByWeight.{IsOrderOf}
use Rattle.fzn_levels.proofs.LevelLemmas.{AreNoLighterBefore, said_more, said_same}
use Rattle.fzn_levels.proofs.explain.explain_levels.Goals as goal
use Rattle.fzn_levels.proofs.explain.explain_levels.Goals.{then-k-except+in_ok-explain_noted, else-k-except}

pub explain_noted-requires-clause-order : goal.explain_noted-requires-clause-order
explain_noted-requires-clause-order c =
    let part = c.index-parts-k.result in
    let here = c.index-parts-k.is ∙ ap (λ (ps : List Part). get_or ps c.loop-k.k c.index-parts-k.result) c.as_slice-parts.ensures in
    IfSome_then c.order_at-order.result c.order_at-order.ensures (λ by_weight is. subst (λ (p : Part). IsOrderOf p by_weight.now) (sym here) (is part))

pub loop-k-preserved : goal.loop-k-preserved
loop-k-preserved c =
    let trail = c.args.pass.now.trail.now in
    let parts = c.args.pass.now.row.now.parts in
    let levels = c.args.levels.now in
    let k = c.loop-k.k in
    let inside : c.loop-k.k < length c.args.pass.now.row.now.parts = subst (λ (ps : List Part). c.loop-k.k < length ps) c.as_slice-parts.ensures c.loop-k-test.true in
    let count = c.requires.one_each in
    let below : c.loop-k.k < length c.args.levels.now = omega arith in
    elim c.if-k-except.branch [
      | then-k-except+in_ok-explain_noted w ↦
          let part = w.index-parts-k.result in
          let fits : FitsSigned w128 (get_or c.args.levels.now c.loop-k.k (pos 0)) = search rules in
          let level = to_z w128 (of_z w128 (get_or c.args.levels.now c.loop-k.k (pos 0))) in
          subst (λ (clause : List Lit). IsGrown trail (AreNoLighterBefore (k + 1) c.args.except parts levels) c.args.clause.now clause) (sym w.clause-is)
          (said_more trail parts levels c.args.except c.args.clause.now k c.loop-k.clause c.loop-k.invariant w.explain_noted.new.clause part level inside count
          (w.index-parts-k.is ∙ ap (λ (ps : List Part). get_or ps k part) c.as_slice-parts.ensures) (to_z-of_z w128 (get_or c.args.levels.now c.loop-k.k (pos 0)) fits ∙ get_or_default levels k (pos 0) level below) w.in_ok-explain_noted.ensures)
      | else-k-except w ↦
          subst (λ (clause : List Lit). IsGrown trail (AreNoLighterBefore (k + 1) c.args.except parts levels) c.args.clause.now clause) (sym w.clause-is)
          (said_same trail parts levels c.args.except c.args.clause.now k c.loop-k.clause c.loop-k.invariant w.if-k-except.false)
    ]
