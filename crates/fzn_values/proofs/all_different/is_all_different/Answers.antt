use Rattle.std.proofs.Common.{◌≡◌, ◌+◌, ◌*◌, sym, subst, arith}
use Rattle.fzn_values.specs.AllDifferent.{FrontDiffers}
use Rattle.fzn_values.proofs.AllDifferentLemmas.{front-more}
use Rattle.fzn_values.proofs.all_different.is_all_different.Goals as goal

-- one more block
pub loop-block-preserved : goal.loop-block-preserved
loop-block-preserved c =
    let more : (c.loop-block.block + 1) * 512 ≡ c.loop-block.block * 512 + 512 = omega arith in
    subst (λ n. FrontDiffers n c.args.places.now) (sym more)
    (front-more c.args.places.now (c.loop-block.block * 512) 512 c.loop-block.invariant
    (subst (FrontDiffers 512) c.from.ensures (c.front_differs.ensures.0 c.if-not-front_differs.false)))
