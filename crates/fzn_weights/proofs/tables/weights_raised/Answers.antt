use Rattle.std.proofs.Common.{rules, arith, ◌≡◌, ◌+◌, ◌*◌, ◌<◌, ◌++◌, ◌∷◌, [], length, get_or, true, false, sym, ap, ◌∙◌, subst, inr, List, Option, None, ℤ, ℕ, pos, FitsSigned, w64, to_z, of_z}
use Rattle.std.specs.List.{list_all}
use Rattle.std.proofs.lemmas.Int.{to_z-of_z}
use Rattle.std.proofs.lemmas.Result.{err_from_is_err_and}
use Rattle.fzn_values.specs.Term.{numbers_in}
use Rattle.fzn_weights.specs.Limits.{is_entry_within}
use Rattle.fzn_weights.specs.Weights.{both_weights}
use Rattle.fzn_weights.specs.Tables.{weights_raised}
use Rattle.fzn_weights.specs.Amount.{amount_at}
use Rattle.fzn_weights.proofs.MoveLemmas.{within-push, within-fails}
use Rattle.fzn_weights.proofs.TableLemmas.{RaisedBy, length-weights, weights-at, weights-more}
use Rattle.fzn_weights.proofs.tables.weights_raised.Goals as goal

pub loop-r-preserved : goal.loop-r-preserved
loop-r-preserved c =
    let part = c.args.part.now in
    let more = amount_at c.args.more.now in
    let column = c.args.column in
    let width = length part.places in
    let r = c.loop-r.r in
    let inside : r < length part.weights = omega arith in
    let entry = c.number_at-entry.result in
    let fits : FitsSigned w64 entry = search rules in
    let entry_is : to_z w64 (of_z w64 entry) ≡ get_or part.rows (r * width + column) (pos 0) = to_z-of_z w64 entry fits ∙ c.number_at-entry.ensures ∙ ap (λ (n : ℕ). get_or (numbers_in c.constants-rows.result.now) (r * n + column) (pos 0)) c.len.ensures ∙ ap (λ (numbers : List ℤ). get_or numbers (r * width + column) (pos 0)) c.constants-rows.ensures in
    let weight = c.in_ok-weight.weight in
    let is : weight ≡ RaisedBy more column width (get_or part.weights r None) part.rows (r * width + column) =
    c.in_ok-weight.ensures.ok ∙ ap (λ (ws : List (Option ℤ)). both_weights (get_or ws r None) c.at.result) c.as_slice.ensures ∙ ap (both_weights (get_or part.weights r None)) (c.at.ensures.value ∙ ap more entry_is) in
    record {
      so_far = c.in_ok-push.ensures.ok ∙ ap (λ (es : List (Option ℤ)). es ++ weight ∷ []) c.loop-r.invariant.so_far ∙ sym (weights-more more column width part.rows part.weights r weight inside is);
      within = subst (λ (es : List (Option ℤ)). list_all is_entry_within es ≡ true) (sym c.in_ok-push.ensures.ok) (within-push c.loop-r.weights weight c.loop-r.invariant.within c.in_ok-weight.ensures.within);
    }

pub returns-in_err-weight-clause-err : goal.returns-in_err-weight-clause-err
returns-in_err-weight-clause-err c =
    let p = err_from_is_err_and c.from_residual.result c.from_residual.ensures.1 in
    let part = c.args.part.now in
    let more = amount_at c.args.more.now in
    let column = c.args.column in
    let width = length part.places in
    let r = c.loop-r.r in
    let inside : r < length part.weights = omega arith in
    let entry = c.number_at-entry.result in
    let fits : FitsSigned w64 entry = search rules in
    let entry_is : to_z w64 (of_z w64 entry) ≡ get_or part.rows (r * width + column) (pos 0) = to_z-of_z w64 entry fits ∙ c.number_at-entry.ensures ∙ ap (λ (n : ℕ). get_or (numbers_in c.constants-rows.result.now) (r * n + column) (pos 0)) c.len.ensures ∙ ap (λ (numbers : List ℤ). get_or numbers (r * width + column) (pos 0)) c.constants-rows.ensures in
    let all = weights_raised more column width part.rows part.weights in
    let here : both_weights (get_or c.as_slice.result.now r None) c.at.result ≡ get_or all r None =
    ap (λ (ws : List (Option ℤ)). both_weights (get_or ws r None) c.at.result) c.as_slice.ensures ∙ ap (both_weights (get_or part.weights r None)) (c.at.ensures.value ∙ ap more entry_is)
    ∙ sym (weights-at more column width part.rows part.weights r inside) in
    let fails : is_entry_within (get_or all r None) ≡ false = ap is_entry_within (sym here) ∙ c.in_err-weight.ensures.err.1 in
    rw (p.1, p.2) (inr (c.in_err-weight.ensures.err.0, within-fails all r (rw (length-weights more column width part.rows part.weights) inside) fails))
