-- What is added to the weight of a row by its entry at a column.
use Rattle.std.specs.Prelude.{◌≡◌, ℤ, true, Option, Some, IfSome}
use Rattle.fzn_meaning.specs.Separable.{weight_at, IsWeightList, IsCoefficient}
use Rattle.fzn_weights.specs.declared.tables.Amount.{Amount}
use Rattle.fzn_weights.specs.declared.tables.Amount.TheVariants.{Price, Weight}
use Rattle.fzn_weights.specs.Prices.{price_at, are_prices}

-- the price of the entry, or what the variable weighs there
abbrev pub amount_at : Amount → ℤ → Option ℤ
amount_at (Price low prices) entry = Some (price_at low.now prices.now entry)
amount_at (Weight part) entry = weight_at part.now entry

-- every number is within its limits
abbrev pub IsLimitedAmount : Amount → Type 0
IsLimitedAmount (Price low prices) = are_prices low.now prices.now ≡ true
IsLimitedAmount (Weight part) = IfSome part.now.listed IsWeightList × IsCoefficient part.now.coefficient
