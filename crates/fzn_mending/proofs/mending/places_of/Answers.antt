use Rattle.std.proofs.Common.{◌∙◌}
use Rattle.fzn_mending.proofs.WalkLemmas.{uncons-at, places-step}
use Rattle.fzn_mending.proofs.mending.places_of.Goals as goal

pub loop-tokens-preserved : goal.loop-tokens-preserved
loop-tokens-preserved c =
    let tokens = c.loop-tokens.tokens.now in
    let bytes = c.args.bytes.now in
    places-step c.args.params.now bytes c.loop-tokens.seen c.next-seen.result c.first_number-number.result tokens _ (uncons-at tokens _ c.in-len1-up.len_at_least) c.first_number-number.ensures (c.next-seen.ensures bytes)
    c.loop-tokens.found c.push_place.new.places (c.in_ok-push_place.ensures bytes)
    ∙ c.loop-tokens.invariant
