use Rattle.std.proofs.Common.{rules, arith, sym, ap, ◌∙◌, ℤ, ◌≤◌, unsigned_abs, length, w64, FitsSigned}
use Rattle.std.proofs.lemmas.Int.{ints}
use Rattle.std.specs.List.{list_all}
use Rattle.fzn_meaning.specs.Solutions.{declared_sets}
use Rattle.fzn_weights.specs.Prices.{is_term_within, has_each_price}
use Rattle.fzn_weights.proofs.PriceLemmas.{prices-facts}
use Rattle.fzn_weights.proofs.prices.has_each_price.Goals as goal

pub returns-in-AllDifferent : goal.returns-in-AllDifferent
returns-in-AllDifferent c =
    let declared = declared_sets c.args.vars.now in
    let low_fits : FitsSigned w64 c.args.low.now = search rules in
    let facts = prices-facts c.args.low.now c.args.prices.now c.requires.prices in
    let low_small : unsigned_abs c.args.low.now ≤ 1000000000 = facts.0 in
    let few : length c.args.prices.now ≤ 65536 = facts.1 in
    c.are_terms_within.ensures ∙ rw c.as_slice.ensures (ap (λ (high : ℤ). list_all (is_term_within declared c.args.low.now high) c.in-AllDifferent.places) (omega (arith, ints))) ∙ sym (ap (has_each_price declared c.args.low.now c.args.prices.now) c.in-AllDifferent.is)
