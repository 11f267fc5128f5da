use Rattle.std.proofs.Common.{arith, ◌≡◌, ◌≤◌, ◌*◌, get_or, unsigned_abs, pos, ◌+ℤ◌, to_z, of_z, w64}
use Rattle.std.proofs.lemmas.Int.{ints}
use mir.Syntax.{w128}
use Rattle.fzn_weights.proofs.PriceLemmas.{prices-small, total-more}
use Rattle.fzn_weights.proofs.prices.total_price.Goals as goal

pub loop-price-preserved : goal.loop-price-preserved
loop-price-preserved c =
    let prices = c.args.prices.now in
    let i = c.loop-price.price-index in
    let price = get_or prices i (pos 0) in
    let inside = c.loop-price-test.true in
    let small : unsigned_abs price ≤ 1000000000000 = prices-small prices i (pos 0) c.requires.prices inside in
    let total = to_z w128 c.loop-price.total-bits in
    let bounded : unsigned_abs total ≤ i * 1000000000000 = c.loop-price.invariant.bounded in
    let is : to_z w128 (of_z w128 (total +ℤ to_z w128 (of_z w128 (to_z w64 (of_z w64 price))))) ≡ total +ℤ price = omega (arith, ints) in
    record {
      so_far = total-more prices i (pos 0) inside total _ c.loop-price.invariant.so_far is;
      bounded = omega (arith, ints);
    }
