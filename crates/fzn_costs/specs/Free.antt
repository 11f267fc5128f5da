-- Costs of which there are none.
use Rattle.std.specs.Prelude.{◌≡◌, []}
use Rattle.fzn_costs.specs.declared.costs.Costs.{Costs}

-- no variable has a weight, and none has values with a price
pub record CostsNothing (costs : Costs) : Type 0 where
  pub no_weights : costs.weights.items ≡ []
  pub no_prices : costs.ranges.items ≡ []
