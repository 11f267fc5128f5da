use Rattle.std.proofs.Common.{rules, arith, ◌≤ℤ◌, subst, sym, ap, ◌∙◌, ℤ, int_le, to_z, of_z, w64, FitsSigned}
use Rattle.std.proofs.lemmas.Int.{ints, to_z-of_z}
use Rattle.std.proofs.lemmas.Bool.{true≢false}
use Rattle.fzn_domain.specs.IntSet.{least, greatest}
use Rattle.fzn_weights.proofs.PriceLemmas.{set_within}
use Rattle.fzn_weights.proofs.prices.is_set_within.Goals as goal

pub returns-then-low-min : goal.returns-then-low-min
returns-then-low-min c =
    let set = c.args.set.now in
    let max_fits : FitsSigned w64 c.max.result = search rules in
    let min_fits : FitsSigned w64 c.min.result = search rules in
    let high_fits : FitsSigned w64 c.args.high.now = search rules in
    let low_fits : FitsSigned w64 c.args.low.now = search rules in
    let above : c.args.low.now ≤ℤ least set = subst (λ (x : ℤ). c.args.low.now ≤ℤ x) c.min.ensures.value (omega (arith, ints)) in
    let is = ap (λ (x : ℤ). int_le x (to_z w64 (of_z w64 c.args.high.now))) (to_z-of_z w64 c.max.result max_fits ∙ c.max.ensures.value) ∙ ap (int_le (greatest set)) (to_z-of_z w64 c.args.high.now high_fits) in
    set_within c.args.low.now c.args.high.now set _ (λ none. true≢false (sym (c.is_empty.ensures.empty.1 none) ∙ c.if-is_empty.false)) above is
