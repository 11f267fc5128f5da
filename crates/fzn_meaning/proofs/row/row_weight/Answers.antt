use Rattle.std.proofs.Common.{arith, ◌≡◌, ◌<◌, Bool, true, false, IsTrue, List, length, get_or, sym, ap, subst, ◌∙◌, ℤ, Option, None}
use Rattle.fzn_values.specs.Table.{row_at}
use Rattle.fzn_meaning.specs.Separable.{row_weight}
use Rattle.fzn_meaning.proofs.TableWeightLemmas.{take-begins, not-begins, row_weight-at, row_weight-on}
use Rattle.fzn_meaning.proofs.row.row_weight.Goals as goal

both : (b : Bool) → b ≡ false → IsTrue b → ⊥
both true off on = absurd (cc)
both false off on = absurd (cc)

pub returns-then-is_row-clause-value : goal.returns-then-is_row-clause-value
returns-then-is_row-clause-value c =
    let xs = c.new-places.result in
    let rows = c.args.table.now.rows in
    let weights = c.args.table.now.weights in
    let r = c.loop-r.r in
    let inside : r < length weights = omega arith in
    let here = subst (λ (numbers : List ℤ). row_at (length xs) numbers r ≡ xs) c.constants.ensures (c.is_row.ensures.0 c.if-is_row.true) in
    c.entry_number.ensures
    ∙ ap (λ (ws : List (Option ℤ)). get_or ws r None) c.as_slice.ensures
    ∙ sym (c.loop-r.invariant ∙ row_weight-at xs rows weights r inside (take-begins xs _ here))
    ∙ ap (λ (ys : List ℤ). row_weight ys rows weights) c.new-places.ensures

pub loop-r-preserved : goal.loop-r-preserved
loop-r-preserved c =
    let xs = c.new-places.result in
    let rows = c.args.table.now.rows in
    let weights = c.args.table.now.weights in
    let r = c.loop-r.r in
    let inside : r < length weights = omega arith in
    c.loop-r.invariant ∙ row_weight-on xs rows weights r inside (not-begins xs _ (λ same. absurd (both c.is_row.result c.if-is_row.false (c.is_row.ensures.1 (subst (λ (numbers : List ℤ). row_at (length xs) numbers r ≡ xs) (sym c.constants.ensures) same)))))
