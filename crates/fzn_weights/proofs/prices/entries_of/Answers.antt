use Rattle.std.proofs.Common.{rules, arith, ◌≡◌, sym, ap, ◌∙◌, ℤ, pos, get_or, ◌+ℤ◌, ◌<◌, ◌≤◌, ◌++◌, ◌∷◌, [], List, Option, unsigned_abs, length, to_z, of_z, w64, FitsSigned}
use Rattle.std.proofs.lemmas.Int.{ints}
use Rattle.std.specs.Option.{option_map}
use Rattle.fzn_meaning.specs.Separable.{listed_at}
use Rattle.fzn_weights.proofs.PriceLemmas.{entries-more, prices-facts}
use Rattle.fzn_weights.proofs.prices.entries_of.Goals as goal

pub loop-i-preserved : goal.loop-i-preserved
loop-i-preserved c =
    let prices = c.args.prices.now in
    let i = c.loop-i.i in
    let low = c.args.low.now in
    let low_fits : FitsSigned w64 low = search rules in
    let facts = prices-facts low prices c.requires.prices in
    let low_small : unsigned_abs low ≤ 1000000000 = facts.0 in
    let few : length prices ≤ 65536 = facts.1 in
    let inside : i < length prices = omega arith in
    let value : ℤ = to_z w64 (of_z w64 (to_z w64 (of_z w64 low) +ℤ to_z w64 i)) in
    let value_is : value ≡ low +ℤ pos i = omega (arith, ints) in
    let e : c.plus_price.result ≡ option_map (λ w. w +ℤ get_or prices i (pos 0)) (listed_at c.args.old.now value) = c.plus_price.ensures ∙ ap (λ (o : Option ℤ). option_map (λ w. w +ℤ get_or prices i (pos 0)) o) c.listed_at.ensures.value in
    c.in_ok-push.ensures.ok ∙ ap (λ (es : List (Option ℤ)). es ++ c.plus_price.result ∷ []) c.loop-i.invariant
    ∙ sym (entries-more low prices i (pos 0) value c.args.old.now c.plus_price.result inside value_is e)
