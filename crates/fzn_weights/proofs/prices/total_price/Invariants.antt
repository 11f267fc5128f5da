use Rattle.std.proofs.Common.{◌≡◌, ◌*◌, ◌≤◌, take, unsigned_abs}
use Rattle.fzn_weights.specs.Prices.{total_price}
use Rattle.fzn_weights.proofs.prices.total_price.Given as goal

abbrev pub invariant-loop-price : goal.invariant-loop-price
invariant-loop-price l = record {
  so_far : l.total ≡ total_price (take l.price-index l.prices);
  bounded : unsigned_abs l.total ≤ l.price-index * 1000000000000;
}
