-- Sums over places, and their ends.
use Rattle.std.proofs.Common.{◌≡◌, List, [], ◌∷◌, ◌++◌, ◌∙◌, cond, false, arith, ℤ, pos, negsuc, ◌+ℤ◌, ◌*ℤ◌, ◌≤ℤ◌, int_lt}
use Rattle.std.specs.List.{fold}
use Rattle.std.proofs.lemmas.Int.{ints}
use Rattle.std.proofs.lemmas.List.Sums.{fold-append}
use Rattle.fzn_values.specs.declared.term.Place.{Place}
use Rattle.fzn_domain.specs.IntSet.{IntSet}
use Rattle.fzn_domain.specs.Narrow.{IsWithin}
use Rattle.fzn_values.specs.Term.{total_by, term_value, product_at, sum_at}
use Rattle.fzn_sets.specs.Terms.{least_value, greatest_value}
use Rattle.fzn_sets.proofs.CallerLemmas.{IsBetween, term_between}
use Rattle.fzn_builtin_rules.specs.Linear.{low_product, high_product, least_sum, greatest_sum}
use Rattle.fzn_builtin_rules.proofs.ProductLemmas.{mono_up, mono_down}

module _ (f : Place → ℤ) where
  -- a sum from another start
  total_from : (a : ℤ) (places : List Place) → fold (λ (sum : ℤ) (place : Place). sum +ℤ f place) a places ≡ a +ℤ total_by f places
  total_from a [] = omega (arith, ints)
  total_from a (p ∷ places) =
      let here = total_from (a +ℤ f p) places in
      let there = total_from (pos 0 +ℤ f p) places in
      omega (arith, ints)

  pub total_by-cons : (p : Place) (places : List Place) → total_by f (p ∷ places) ≡ f p +ℤ total_by f places
  total_by-cons p places = let e = total_from (pos 0 +ℤ f p) places in omega (arith, ints)

  pub total_by-append : (front back : List Place) → total_by f (front ++ back) ≡ total_by f front +ℤ total_by f back
  total_by-append front back = fold-append (λ (sum : ℤ) (place : Place). sum +ℤ f place) (pos 0) front back ∙ total_from (total_by f front) back

-- each place gives no less, so neither does the sum
total_le : (f g : Place → ℤ) (places : List Place) → ((p : Place) → f p ≤ℤ g p) → total_by f places ≤ℤ total_by g places
total_le f g [] each = omega (arith, ints)
total_le f g (p ∷ places) each =
    let first = each p in
    let rest = total_le f g places each in
    omega (arith, ints, total_by-cons f p places, total_by-cons g p places)

-- ---- between the ends

-- the product with either sign of the coefficient
product_between : (c low high v : ℤ) → IsBetween low high v → IsBetween (c *ℤ (cond (int_lt c (pos 0)) high low)) (c *ℤ (cond (int_lt c (pos 0)) low high)) (c *ℤ v)
product_between (pos n) low high v between =
    let sign : int_lt (pos n) (pos 0) ≡ false = grind (arith, ints) in
    rw sign (mono_up n low v between.0, mono_up n v high between.1)
product_between (negsuc n) low high v between = (mono_down n v high between.1, mono_down n low v between.0)

place_between : (sets : List IntSet) (values : List ℤ) (place : Place) → IsWithin sets values → IsBetween (low_product sets place) (high_product sets place) (product_at values place)
unfolding low_product high_product
place_between sets values place within =
    product_between place.coefficient (least_value sets place.term) (greatest_value sets place.term) (term_value values place.term) (term_between sets values place.term within)

-- the sum at values within the sets lies between the least and the greatest sum
pub sum_between : (sets : List IntSet) (values : List ℤ) (places : List Place) → IsWithin sets values → IsBetween (least_sum sets places) (greatest_sum sets places) (sum_at values places)
sum_between sets values places within = (
  total_le (low_product sets) (product_at values) places (λ (p : Place). (place_between sets values p within).0),
  total_le (product_at values) (high_product sets) places (λ (p : Place). (place_between sets values p within).1),
)
