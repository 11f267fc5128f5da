use Rattle.std.proofs.Common.{◌≡◌, ◌≤◌, take, unsigned_abs}
use Rattle.fzn_weights.specs.Prices.{least_price}
use Rattle.fzn_weights.proofs.prices.least_price.Given as goal

abbrev pub invariant-loop-price : goal.invariant-loop-price
invariant-loop-price l = record {
  so_far : l.least ≡ least_price (take l.price-index l.prices);
  bounded : unsigned_abs l.least ≤ 1000000000000;
}
