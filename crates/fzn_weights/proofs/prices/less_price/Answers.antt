use Rattle.std.proofs.Common.{rules, arith, ◌≡◌, ◌≤◌, get_or, unsigned_abs, ℤ, pos, ◌-ℤ◌, to_z, of_z, w64, FitsSigned}
use Rattle.std.proofs.lemmas.Int.{ints}
use Rattle.fzn_weights.proofs.PriceLemmas.{price-inside, prices-facts, abs_pos}
use Rattle.fzn_weights.proofs.prices.less_price.Goals as goal

pub returns-clause-value : goal.returns-clause-value
returns-clause-value c =
    let prices = c.args.prices.now in
    let low_fits : FitsSigned w64 c.args.low.now = search rules in
    let value_fits : FitsSigned w64 c.args.value.now = search rules in
    let facts = prices-facts c.args.low.now prices c.requires.prices in
    let low_small : unsigned_abs c.args.low.now ≤ 1000000000 = facts.0 in
    let distance : ℤ = to_z w64 (of_z w64 (to_z w64 (of_z w64 c.args.value.now) -ℤ to_z w64 (of_z w64 c.args.low.now))) in
    let k = unsigned_abs distance in
    let is : c.args.value.now -ℤ c.args.low.now ≡ pos k = abs_pos (c.args.value.now -ℤ c.args.low.now) distance (omega (arith, ints)) c.if-distance-lt0.false in
    let price_is = price-inside c.args.low.now c.args.value.now prices k is in
    let fits : FitsSigned w64 (get_or prices k (pos 0)) = search rules in
    omega (arith, ints)
