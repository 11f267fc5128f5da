use Rattle.std.proofs.Common.{rules, arith, ◌≡◌, ◌<◌, ◌++◌, ◌∷◌, [], get_or, true, false, sym, ap, ◌∙◌, subst, inr, List, Option, None, Some, ℤ, pos, ◌+ℤ◌, ◌-ℤ◌, FitsSigned, w64, to_z, of_z}
use mir.Syntax.{w128}
use Rattle.std.specs.List.{list_all}
use Rattle.std.proofs.lemmas.Int.{ints, to_z-of_z}
use Rattle.std.proofs.lemmas.Result.{err_from_is_err_and}
use Rattle.fzn_meaning.specs.Separable.{listed_at}
use Rattle.fzn_weights.specs.Prices.{price_at}
use Rattle.fzn_weights.specs.Limits.{is_entry_within}
use Rattle.fzn_weights.specs.Weights.{both_weights}
use Rattle.fzn_weights.specs.Moves.{moved_from}
use Rattle.fzn_weights.proofs.MoveLemmas.{moved-more, moved-at, length-moved, within-push, within-fails, Moved}
use Rattle.fzn_weights.proofs.tables.lowered.Goals as goal

pub loop-i-preserved : goal.loop-i-preserved
loop-i-preserved c =
    let old = c.args.old.now in
    let more = λ (value : ℤ). Some (pos 0 -ℤ price_at c.args.low.now c.args.prices.now value) in
    let first = c.args.first.now in
    let i = c.loop-i.i in
    let few = c.requires.few in
    let small = c.requires.first in
    let value : ℤ = to_z w64 (of_z w64 (to_z w64 (of_z w64 first) +ℤ to_z w64 i)) in
    let value_is : value ≡ first +ℤ pos i = omega (arith, ints) in
    let less = c.less_price-less.result in
    let fits : FitsSigned w128 less = search rules in
    let less_is : Some (to_z w128 (of_z w128 less)) ≡ more value = ap (λ (x : ℤ). Some x) (to_z-of_z w128 less fits ∙ c.less_price-less.ensures.value) in
    let entry = c.in_ok-entry.entry in
    let e : entry ≡ both_weights (listed_at old value) (more value) =
    c.in_ok-entry.ensures.ok ∙ ap (λ (o : Option ℤ). both_weights o (Some (to_z w128 (of_z w128 less)))) c.listed_at.ensures.value ∙ ap (both_weights (listed_at old value)) less_is in
    record {
      so_far = c.in_ok-push.ensures.ok ∙ ap (λ (es : List (Option ℤ)). es ++ entry ∷ []) c.loop-i.invariant.so_far ∙ sym (moved-more more old first i value entry value_is e);
      within = subst (λ (es : List (Option ℤ)). list_all is_entry_within es ≡ true) (sym c.in_ok-push.ensures.ok) (within-push c.loop-i.entries entry c.loop-i.invariant.within c.in_ok-entry.ensures.within);
    }

pub returns-in_err-entry-clause-err : goal.returns-in_err-entry-clause-err
returns-in_err-entry-clause-err c =
    let p = err_from_is_err_and c.from_residual.result c.from_residual.ensures.1 in
    let old = c.args.old.now in
    let more = λ (value : ℤ). Some (pos 0 -ℤ price_at c.args.low.now c.args.prices.now value) in
    let first = c.args.first.now in
    let count = c.args.count in
    let i = c.loop-i.i in
    let inside : i < count = omega arith in
    let few = c.requires.few in
    let small = c.requires.first in
    let value : ℤ = to_z w64 (of_z w64 (to_z w64 (of_z w64 first) +ℤ to_z w64 i)) in
    let value_is : value ≡ first +ℤ pos i = omega (arith, ints) in
    let less = c.less_price-less.result in
    let fits : FitsSigned w128 less = search rules in
    let less_is : Some (to_z w128 (of_z w128 less)) ≡ more value = ap (λ (x : ℤ). Some x) (to_z-of_z w128 less fits ∙ c.less_price-less.ensures.value) in
    let here : both_weights c.listed_at.result (Some (to_z w128 (of_z w128 less))) ≡ get_or (moved_from more first count old) i None =
    ap (λ (o : Option ℤ). both_weights o (Some (to_z w128 (of_z w128 less)))) c.listed_at.ensures.value ∙ ap (both_weights (listed_at old value)) less_is
    ∙ ap (Moved more old) value_is ∙ sym (moved-at more old first count i inside) in
    let fails : is_entry_within (get_or (moved_from more first count old) i None) ≡ false = ap is_entry_within (sym here) ∙ c.in_err-entry.ensures.err.1 in
    rw (p.1, p.2) (inr (c.in_err-entry.ensures.err.0, within-fails (moved_from more first count old) i (rw (length-moved more old first count) inside) fails))
