-- The ends of what a place gives, and a walk that puts them together.
use Rattle.std.proofs.Common.{◌≡◌, ℕ, ◌+◌, ◌*◌, ◌<◌, ◌≤◌, Bool, true, false, cond, List, [], ◌∷◌, ◌++◌, length, get_or, take, sym, ap, subst, ◌∙◌, arith, ℤ, pos, ◌+ℤ◌, ◌*ℤ◌, ◌≤ℤ◌, ◌<ℤ◌, unsigned_abs, int_lt, w64, to_z, of_z, FitsSigned}
use Rattle.std.proofs.lemmas.Int.{ints, to_z-of_z, unsigned_abs-mul, fits_signed_from_abs}
use Rattle.std.proofs.lemmas.List.{take_more}
use Rattle.std.proofs.Math.Nat.{mul-le-mul}
use Rattle.fzn_domain.specs.IntSet.{IntSet}
use Rattle.fzn_domain.specs.Limits.{IsInLimits}
use Rattle.fzn_values.specs.declared.term.Place.{Place}
use Rattle.fzn_values.specs.Term.{total_by}
use Rattle.fzn_sets.specs.Terms.{least_value, greatest_value}
use Rattle.fzn_builtin_rules.specs.Linear.{low_product, high_product}
use Rattle.fzn_builtin_rules.specs.Ends.{AreProducts}
use Rattle.fzn_builtin_rules.proofs.SumLemmas.{total_by-append, total_by-cons}

-- ---- the ends of a place

not_below : (c : ℤ) → pos 0 ≤ℤ c → int_lt c (pos 0) ≡ false
not_below c h = grind (arith, ints)

below_zero : (c : ℤ) → c <ℤ pos 0 → int_lt c (pos 0) ≡ true
below_zero c h = grind (arith, ints)

-- ---- the ends of a place

pub low_up : (sets : List IntSet) (place : Place) → pos 0 ≤ℤ place.coefficient → low_product sets place ≡ place.coefficient *ℤ least_value sets place.term
unfolding low_product
low_up sets place sign = ap (λ (b : Bool). place.coefficient *ℤ cond b (greatest_value sets place.term) (least_value sets place.term)) (not_below place.coefficient sign)

pub low_down : (sets : List IntSet) (place : Place) → place.coefficient <ℤ pos 0 → low_product sets place ≡ place.coefficient *ℤ greatest_value sets place.term
unfolding low_product
low_down sets place sign = ap (λ (b : Bool). place.coefficient *ℤ cond b (greatest_value sets place.term) (least_value sets place.term)) (below_zero place.coefficient sign)

pub high_up : (sets : List IntSet) (place : Place) → pos 0 ≤ℤ place.coefficient → high_product sets place ≡ place.coefficient *ℤ greatest_value sets place.term
unfolding high_product
high_up sets place sign = ap (λ (b : Bool). place.coefficient *ℤ cond b (least_value sets place.term) (greatest_value sets place.term)) (not_below place.coefficient sign)

pub high_down : (sets : List IntSet) (place : Place) → place.coefficient <ℤ pos 0 → high_product sets place ≡ place.coefficient *ℤ least_value sets place.term
unfolding high_product
high_down sets place sign = ap (λ (b : Bool). place.coefficient *ℤ cond b (least_value sets place.term) (greatest_value sets place.term)) (below_zero place.coefficient sign)

-- ---- products of 64 bits

module _ (c v : ℤ) (small : unsigned_abs c ≤ 1000000000) (limits : IsInLimits v) where
  small_value : unsigned_abs v ≤ 1000000000
  small_value = grind (arith, ints)

  pub product_bound : unsigned_abs (c *ℤ v) ≤ 1000000000000000000
  product_bound = let both = mul-le-mul small small_value in rw (unsigned_abs-mul c v) both

  c_fits : FitsSigned w64 c
  c_fits = fits_signed_from_abs w64 c (omega arith)

  v_fits : FitsSigned w64 v
  v_fits = let h = small_value in fits_signed_from_abs w64 v (omega arith)

  product_fits : FitsSigned w64 (c *ℤ v)
  product_fits = let h = product_bound in fits_signed_from_abs w64 (c *ℤ v) (omega arith)

  pub product_room : FitsSigned w64 (to_z w64 (of_z w64 c) *ℤ to_z w64 (of_z w64 v))
  product_room = rw (to_z-of_z w64 c c_fits, to_z-of_z w64 v v_fits) product_fits

  pub product_cast : to_z w64 (of_z w64 (to_z w64 (of_z w64 c) *ℤ to_z w64 (of_z w64 v))) ≡ c *ℤ v
  product_cast = rw (to_z-of_z w64 c c_fits, to_z-of_z w64 v v_fits) (to_z-of_z w64 (c *ℤ v) product_fits)

bounded_as : (a b : ℤ) → a ≡ b → unsigned_abs b ≤ 1000000000000000000 → unsigned_abs a ≤ 1000000000000000000
bounded_as a b e h = subst (λ (z : ℤ). unsigned_abs z ≤ 1000000000000000000) (sym e) h

module _ (sets : List IntSet) (place : Place) (low high : ℤ) where
  pub products_down : place.coefficient <ℤ pos 0 → unsigned_abs place.coefficient ≤ 1000000000 → IsInLimits low → IsInLimits high → low ≡ least_value sets place.term → high ≡ greatest_value sets place.term → AreProducts sets place (record { least = to_z w64 (of_z w64 (to_z w64 (of_z w64 place.coefficient) *ℤ to_z w64 (of_z w64 high))); greatest = to_z w64 (of_z w64 (to_z w64 (of_z w64 place.coefficient) *ℤ to_z w64 (of_z w64 low))) })
  products_down sign small low_limits high_limits low_is high_is =
      let c = place.coefficient in
      let least_cast = product_cast c high small high_limits in
      let greatest_cast = product_cast c low small low_limits in
      record {
        least_is = least_cast ∙ ap (λ (x : ℤ). c *ℤ x) high_is ∙ sym (low_down sets place sign);
        greatest_is = greatest_cast ∙ ap (λ (x : ℤ). c *ℤ x) low_is ∙ sym (high_down sets place sign);
        small = record {
          least_bounded = bounded_as _ _ least_cast (product_bound c high small high_limits);
          greatest_bounded = bounded_as _ _ greatest_cast (product_bound c low small low_limits);
        };
      }

  pub products_up : pos 0 ≤ℤ place.coefficient → unsigned_abs place.coefficient ≤ 1000000000 → IsInLimits low → IsInLimits high → low ≡ least_value sets place.term → high ≡ greatest_value sets place.term → AreProducts sets place (record { least = to_z w64 (of_z w64 (to_z w64 (of_z w64 place.coefficient) *ℤ to_z w64 (of_z w64 low))); greatest = to_z w64 (of_z w64 (to_z w64 (of_z w64 place.coefficient) *ℤ to_z w64 (of_z w64 high))) })
  products_up sign small low_limits high_limits low_is high_is =
      let c = place.coefficient in
      let least_cast = product_cast c low small low_limits in
      let greatest_cast = product_cast c high small high_limits in
      record {
        least_is = least_cast ∙ ap (λ (x : ℤ). c *ℤ x) low_is ∙ sym (low_up sets place sign);
        greatest_is = greatest_cast ∙ ap (λ (x : ℤ). c *ℤ x) high_is ∙ sym (high_up sets place sign);
        small = record {
          least_bounded = bounded_as _ _ least_cast (product_bound c low small low_limits);
          greatest_bounded = bounded_as _ _ greatest_cast (product_bound c high small high_limits);
        };
      }

-- ---- one place more

module _ (f : Place → ℤ) (places : List Place) (i : ℕ) (d : Place) (before more after : ℤ) where
  pub sum_more : i < length places → before ≡ total_by f (take i places) → more ≡ f (get_or places i d) → after ≡ before +ℤ more → after ≡ total_by f (take (i + 1) places)
  sum_more in_places so_far here is =
      let longer : total_by f (take (i + 1) places) ≡ total_by f (take i places ++ get_or places i d ∷ []) = ap (total_by f) (take_more places i d in_places) in
      let parts = total_by-append f (take i places) (get_or places i d ∷ []) in
      let last = total_by-cons f (get_or places i d) [] in
      omega (arith, ints)

pub bounded_more : (i : ℕ) (before more after : ℤ) → unsigned_abs before ≤ i * 1000000000000000000 → unsigned_abs more ≤ 1000000000000000000 → after ≡ before +ℤ more → unsigned_abs after ≤ (i + 1) * 1000000000000000000
bounded_more i before more after so_far here is =
    let both : unsigned_abs (before +ℤ more) ≤ unsigned_abs before + unsigned_abs more = grind (arith, ints) in
    let same = ap unsigned_abs is in
    omega arith
