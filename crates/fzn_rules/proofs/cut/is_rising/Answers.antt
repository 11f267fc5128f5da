use Rattle.std.proofs.Common.{◌-◌, get_or, refl, pos, ◌≤ℤ◌, ◌<ℤ◌, arith, rules}
use Rattle.std.proofs.lemmas.Int.{ints}
use Rattle.fzn_rules.proofs.RisingLemmas.{Rises-more, IsAscending-from_Rises}
use Rattle.fzn_rules.proofs.cut.is_rising.Goals as goal

-- two neighbours that do not rise
pub returns-then-places-k : goal.returns-then-places-k
returns-then-places-k c =
    ((λ no. absurd cc), (λ up. absurd (let step = up (c.loop-k.k - 1) c.loop-k.k (pos 0) (omega arith) c.loop-k-test.true in let back : get_or c.args.places.now c.loop-k.k (pos 0) ≤ℤ get_or c.args.places.now (c.loop-k.k - 1) (pos 0) = search rules in omega (arith, ints))))

pub loop-k-preserved : goal.loop-k-preserved
loop-k-preserved c =
    let step : get_or c.args.places.now (c.loop-k.k - 1) (pos 0) <ℤ get_or c.args.places.now c.loop-k.k (pos 0) = search rules in
    Rises-more c.args.places.now c.loop-k.k c.loop-k.auto.k c.loop-k.invariant step

pub returns : goal.returns
returns c = ((λ yes. IsAscending-from_Rises c.args.places.now c.loop-k.k (omega arith) c.loop-k.invariant), (λ up. refl))
