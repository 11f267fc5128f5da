use Rattle.std.proofs.Common.{◌≤◌, length, unsigned_abs, subst, sym, ap, ◌∙◌, ℤ, pos, ◌-ℤ◌, ◌*ℤ◌}
use Rattle.fzn_weights.specs.Prices.{total_price}
use Rattle.fzn_weights.proofs.PriceLemmas.{cost-fits, cost-value, cost-bounded}
use Rattle.fzn_weights.proofs.prices.most_cost.Goals as goal

pub overflow_sub-result : goal.overflow_sub-result
overflow_sub-result c = cost-fits c.total_price.result c.least_price.result (length c.args.prices.now) c.args.places c.total_price.ensures.bounded c.least_price.ensures.bounded c.requires.few c.requires.places

pub returns-clause-value : goal.returns-clause-value
returns-clause-value c =
    let prices = c.args.prices.now in
    cost-value c.total_price.result c.least_price.result (length prices) c.args.places c.total_price.ensures.bounded c.least_price.ensures.bounded c.requires.few c.requires.places
    ∙ ap (λ (t : ℤ). t -ℤ (pos (length prices) -ℤ pos c.args.places) *ℤ c.least_price.result) c.total_price.ensures.value
    ∙ ap (λ (l : ℤ). total_price prices -ℤ (pos (length prices) -ℤ pos c.args.places) *ℤ l) c.least_price.ensures.value

pub returns-clause-bounded : goal.returns-clause-bounded
returns-clause-bounded c =
    let prices = c.args.prices.now in
    subst (λ (x : ℤ). unsigned_abs x ≤ 1000000000000000000000000000000)
    (sym (cost-value c.total_price.result c.least_price.result (length prices) c.args.places c.total_price.ensures.bounded c.least_price.ensures.bounded c.requires.few c.requires.places))
    (cost-bounded c.total_price.result c.least_price.result (length prices) c.args.places c.total_price.ensures.bounded c.least_price.ensures.bounded c.requires.few c.requires.places)
