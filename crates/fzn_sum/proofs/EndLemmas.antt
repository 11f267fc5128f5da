-- A walk that puts the ends of a sum together, those of the opposite_place sum, and how far a sum may rise above its least.
use Rattle.std.proofs.Common.{◌≡◌, ℕ, ◌+◌, ◌*◌, ◌<◌, ◌≤◌, List, length, get_or, take, ap, subst, ◌∙◌, arith, to_z, of_z, unsigned_abs, ℤ, pos, ◌+ℤ◌, ◌-ℤ◌, ◌≤ℤ◌, All}
use Rattle.std.specs.Int.{w128}
use Rattle.std.proofs.lemmas.Int.{ints, to_z-of_z}
use Rattle.std.proofs.lemmas.List.Elements.{All-map, All-more, All-weaker}
use Rattle.fzn_domain.specs.IntSet.{IntSet}
use Rattle.fzn_values.specs.declared.term.Place.{Place}
use Rattle.fzn_builtin_rules.specs.Linear.{low_product, high_product, least_sum}
use Rattle.fzn_builtin_rules.specs.Ends.{AreProducts}
use Rattle.fzn_builtin_rules.specs.declared.ends.Ends.{Ends}
use Rattle.fzn_builtin_rules.specs.declared.ends.Products.{Products}
use Rattle.fzn_propagator.specs.Inference.{IsTight, spread_of_place}
use Rattle.fzn_sum.specs.Ends.{AreEnds}
use Rattle.fzn_sum.specs.Opposite.{opposite_place, opposites}
use Rattle.fzn_sum.proofs.ClauseLemmas.{fits_sum}
use Rattle.fzn_sum.proofs.OppositeLemmas.{low_product-opposite, opposite-twice, least_sum-opposites, greatest_sum-opposites}
use Rattle.fzn_terms.proofs.OrderLemmas.{le_trans}

pub none_wider-more : (sets : List IntSet) (places : List Place) (i : ℕ) (d : Place) (before after : ℤ) → i < length places → before ≤ℤ after → spread_of_place sets (get_or places i d) ≤ℤ after → All (λ (p : Place). spread_of_place sets p ≤ℤ before) (take i places) → All (λ (p : Place). spread_of_place sets p ≤ℤ after) (take (i + 1) places)
none_wider-more sets places i d before after in_places more here covered =
    All-more (λ (p : Place). spread_of_place sets p ≤ℤ after) places i d in_places
    (All-weaker (λ (p : Place). spread_of_place sets p ≤ℤ before) (λ (p : Place). spread_of_place sets p ≤ℤ after) (λ p h. le_trans (spread_of_place sets p) before after h more) (take i places) covered) here

-- the spread_of_place is between the products
pub spread_by : (sets : List IntSet) (place : Place) (least greatest after : ℤ) → least ≡ low_product sets place → greatest ≡ high_product sets place → (greatest -ℤ least) ≤ℤ after → spread_of_place sets place ≤ℤ after
spread_by sets place least greatest after least_is greatest_is h = omega (arith, ints)

pub still_above : (before after : ℤ) → pos 0 ≤ℤ before → before ≤ℤ after → pos 0 ≤ℤ after
still_above before after h k = le_trans (pos 0) before after h k

-- the same on the same sets
pub products_on : {place : Place} (old new : List IntSet) (given : Products) → old ≡ new → AreProducts old place given → AreProducts new place given
products_on {place} old new given is h = subst (λ (all : List IntSet). AreProducts all place given) is h

-- ---- the opposite_place sum

pub spread-opposite : (sets : List IntSet) (place : Place) → spread_of_place sets (opposite_place place) ≡ spread_of_place sets place
spread-opposite sets place =
    let a = low_product-opposite sets place in
    let b = low_product-opposite sets (opposite_place place) in
    let c : low_product sets (opposite_place (opposite_place place)) ≡ low_product sets place = ap (low_product sets) (opposite-twice place) in
    omega (arith, ints)

pub turned_ends : (sets : List IntSet) (places : List Place) (ends new : Ends) → new.least ≡ pos 0 -ℤ ends.greatest → new.greatest ≡ pos 0 -ℤ ends.least → new.widest ≡ ends.widest → AreEnds sets places ends → AreEnds sets (opposites places) new
turned_ends sets places ends new least_is greatest_is widest_is are = record {
  least_is = let a = least_sum-opposites sets places in let b = are.greatest_is in omega (arith, ints);
  greatest_is = let a = greatest_sum-opposites sets places in let b = are.least_is in omega (arith, ints);
  none_wider = All-map (λ (p : Place). spread_of_place sets p ≤ℤ new.widest) opposite_place places
      (All-weaker (λ (p : Place). spread_of_place sets p ≤ℤ ends.widest) (λ (p : Place). spread_of_place sets (opposite_place p) ≤ℤ new.widest) (λ p h. let same = spread-opposite sets p in omega (arith, ints)) places are.none_wider);
  not_below = let h = are.not_below in omega (arith, ints);
  least_bounded = bounded_as new.least ends.greatest least_is are.greatest_bounded;
  greatest_bounded = bounded_as new.greatest ends.least greatest_is are.least_bounded;
}
  where
    bounded_as : (a b : ℤ) → a ≡ pos 0 -ℤ b → unsigned_abs b ≤ 200000 * 1000000000000000000 → unsigned_abs a ≤ 200000 * 1000000000000000000
    bounded_as a b is h = grind (arith, ints)

-- as the code has it
pub negative : (a : ℤ) → unsigned_abs a ≤ 200000 * 1000000000000000000 → to_z w128 (of_z w128 (pos 0 -ℤ to_z w128 (of_z w128 a))) ≡ pos 0 -ℤ a
negative a small =
    let e = to_z-of_z w128 a (fits_sum a small) in
    let f : unsigned_abs (pos 0 -ℤ a) ≤ 200000 * 1000000000000000000 = grind (arith, ints) in
    ap (λ (z : ℤ). to_z w128 (of_z w128 (pos 0 -ℤ z))) e ∙ to_z-of_z w128 (pos 0 -ℤ a) (fits_sum (pos 0 -ℤ a) f)

-- ---- a sum that may rise by a slack

le_plus : (a s w : ℤ) → s ≤ℤ w → (a +ℤ s) ≤ℤ (a +ℤ w)
le_plus a s w h = omega (arith, ints)

-- the slack covers each place
pub tight_within : (sets : List IntSet) (places : List Place) (slack : ℤ) → pos 0 ≤ℤ slack → All (λ (p : Place). spread_of_place sets p ≤ℤ slack) places → IsTight sets places (least_sum sets places +ℤ slack)
tight_within sets places slack some covered = record {
  least = not_less (least_sum sets places) slack some;
  one_other = λ k d below. le_plus _ _ slack (covered k d below);
}
  where
    not_less : (a w : ℤ) → pos 0 ≤ℤ w → a ≤ℤ (a +ℤ w)
    not_less a w h = omega (arith, ints)

pub tight_by_widest : (sets : List IntSet) (places : List Place) (ends : Ends) (slack : ℤ) → AreEnds sets places ends → ends.widest ≤ℤ slack → IsTight sets places (least_sum sets places +ℤ slack)
tight_by_widest sets places ends slack are covers =
    tight_within sets places slack (le_trans (pos 0) ends.widest slack are.not_below covers) (λ k d below. le_trans _ ends.widest slack (are.none_wider k d below) covers)

-- and so where the ends say that it does
pub tight_by_ends : (sets : List IntSet) (places : List Place) (ends : Ends) (bound : ℤ) → AreEnds sets places ends → (ends.least +ℤ ends.widest) ≤ℤ bound → IsTight sets places bound
tight_by_ends sets places ends bound are fits =
    let least_is = are.least_is in
    let covers : ends.widest ≤ℤ (bound -ℤ ends.least) = omega (arith, ints) in
    let total : least_sum sets places +ℤ (bound -ℤ ends.least) ≡ bound = omega (arith, ints) in
    subst (λ (b : ℤ). IsTight sets places b) total (tight_by_widest sets places ends (bound -ℤ ends.least) are covers)
