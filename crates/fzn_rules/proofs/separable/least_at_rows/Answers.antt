use Rattle.std.proofs.Common.{◌^◌, ◌≡◌, ◌∙◌, ◌+◌, ◌*◌, ◌≤◌, length, arith, sym, subst, ℤ, Option, IfSome, unsigned_abs}
use Rattle.fzn_rules.specs.Separable.{IsLeastOf}
use Rattle.fzn_rules.specs.Least.{Reaches}
use Rattle.fzn_rules.proofs.LeastLemmas.{lesser-bounded}
use Rattle.fzn_rules.proofs.TableWeightLemmas.{IsRowWeightBefore, rows-heavy, rows-more, rows-all}
use Rattle.fzn_rules.proofs.separable.least_at_rows.Goals as goal
use Rattle.fzn_rules.proofs.separable.least_at_rows.Goals.{then-is_light, else-is_light}

pub loop-r-preserved : goal.loop-r-preserved
loop-r-preserved c =
    let sets = c.args.sets.now.present in
    let table = c.args.table.now in
    let i = c.loop-r.r in
    elim c.if-is_light.branch [
      | then-is_light w ↦
          let here = w.weight_at_row in
          record {
            least = subst (IsLeastOf (IsRowWeightBefore sets table (i + 1))) (sym (w.least-is ∙ w.lesser-least.ensures)) (rows-more sets table i c.loop-r.least here.result c.loop-r.invariant.least here.ensures.weight);
            bounded = subst (λ (o : Option ℤ). IfSome o (λ (x : ℤ). unsigned_abs x ≤ 1000000000000 * 2 ^ 63 + 1000000000000000000)) (sym (w.least-is ∙ w.lesser-least.ensures)) (lesser-bounded c.loop-r.least here.result c.loop-r.invariant.bounded here.ensures.bounded);
          }
      | else-is_light w ↦
          let heavy = subst (λ (o : Option ℤ). IfSome o (Reaches c.loop-r.least)) c.row_weight-weight.ensures.value (c.is_light.ensures.heavy w.if-is_light.false) in
          record {
            least = subst (IsLeastOf (IsRowWeightBefore sets table (i + 1))) (sym w.least-is) (rows-heavy sets table i c.loop-r.least c.loop-r.invariant.least heavy);
            bounded = subst (λ (o : Option ℤ). IfSome o (λ (x : ℤ). unsigned_abs x ≤ 1000000000000 * 2 ^ 63 + 1000000000000000000)) (sym w.least-is) c.loop-r.invariant.bounded;
          }
    ]

pub returns-clause-least : goal.returns-clause-least
returns-clause-least c =
    let sets = c.args.sets.now.present in
    let table = c.args.table.now in
    let whole : c.loop-r.r ≡ length table.weights = omega arith in
    rows-all sets table c.loop-r.least (subst (λ n. IsLeastOf (IsRowWeightBefore sets table n) c.loop-r.least) whole c.loop-r.invariant.least)
