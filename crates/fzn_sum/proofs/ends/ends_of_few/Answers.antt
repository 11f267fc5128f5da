use Rattle.fzn_builtin_rules.specs.Linear.{low_product, high_product}
use Rattle.fzn_builtin_rules.proofs.CallerLemmas.{sum_more, bounded_more}
use Rattle.fzn_sum.proofs.EndLemmas.{still_above, none_wider-more, spread_by}
use Rattle.fzn_sum.proofs.ends.ends_of_few.Goals as goal

pub loop-place-preserved : goal.loop-place-preserved
loop-place-preserved c =
    let sets = c.args.trail.now.sets in
    let places = c.args.places.now in
    let before = c.loop-place.invariant in
    let given = c.given_by.ensures in
    let after = c.plus-ends.ensures in
    record {
      least = sum_more (low_product sets) places c.loop-place.place-index _ _ _ _ c.loop-place-test.true before.least given.least_is after.least;
      greatest = sum_more (high_product sets) places c.loop-place.place-index _ _ _ _ c.loop-place-test.true before.greatest given.greatest_is after.greatest;
      least_bounded = bounded_more c.loop-place.place-index c.loop-place.ends.least c.given_by.result.least c.plus-ends.result.least before.least_bounded given.small.least_bounded after.least;
      greatest_bounded = bounded_more c.loop-place.place-index c.loop-place.ends.greatest c.given_by.result.greatest c.plus-ends.result.greatest before.greatest_bounded given.small.greatest_bounded after.greatest;
      not_below = still_above _ _ before.not_below after.wider;
      none_wider = none_wider-more sets places c.loop-place.place-index _ _ _ c.loop-place-test.true after.wider (spread_by sets _ _ _ _ given.least_is given.greatest_is after.covers) before.none_wider;
    }
