-- The opposite_place places give the negative sum.
use Rattle.std.proofs.Common.{◌≡◌, ℕ, zero, suc, ◌≤◌, Bool, true, false, cond, List, [], ◌∷◌, length, refl, sym, ap, ap₂, ◌∙◌, arith, ℤ, pos, negsuc, ◌-ℤ◌, ◌*ℤ◌, unsigned_abs, int_lt, All}
use Rattle.std.proofs.lemmas.Int.{ints}
use Rattle.std.proofs.lemmas.List.{length-map}
use Rattle.std.proofs.lemmas.List.Elements.{All-map, All-weaker}
use Rattle.std.proofs.Math.IntN.{zero-*ℤ, pos-*ℤ-pos, pos-*ℤ-negsuc, negsuc-*ℤ-pos, negsuc-*ℤ-negsuc}
use Rattle.fzn_domain.specs.IntSet.{IntSet}
use Rattle.fzn_values.specs.declared.term.Place.{Place}
use Rattle.fzn_values.specs.Term.{term_value, IsPlace, product_at, sum_at, total_by}
use Rattle.fzn_sets.specs.Terms.{least_value, greatest_value}
use Rattle.fzn_builtin_rules.specs.Linear.{low_product, high_product, least_sum, greatest_sum}
use Rattle.fzn_sum.specs.Opposite.{opposite_place, opposites}
use Rattle.fzn_builtin_rules.proofs.CallerLemmas.{total_by-cons}
use Rattle.fzn_sum.proofs.ProductLemmas.{no_times}

-- ---- products

neg_suc : (n : ℕ) (x : ℤ) → negsuc n *ℤ x ≡ pos 0 -ℤ pos (suc n) *ℤ x
neg_suc n (pos m) = let a = negsuc-*ℤ-pos n m in let b = pos-*ℤ-pos (suc n) m in omega (arith, ints)
neg_suc n (negsuc m) = let a = negsuc-*ℤ-negsuc n m in let b = pos-*ℤ-negsuc (suc n) m in omega (arith, ints)

pub neg_times : (c x : ℤ) → (pos 0 -ℤ c) *ℤ x ≡ pos 0 -ℤ c *ℤ x
neg_times (pos zero) x =
    let e : pos 0 -ℤ pos 0 ≡ pos 0 = omega (arith, ints) in
    let a = no_times (pos 0 -ℤ pos 0) x e in
    let b = zero-*ℤ x in
    omega (arith, ints)
neg_times (pos (suc n)) x =
    let e : pos 0 -ℤ pos (suc n) ≡ negsuc n = omega (arith, ints) in
    ap (λ (c : ℤ). c *ℤ x) e ∙ neg_suc n x
neg_times (negsuc n) x =
    let e : pos 0 -ℤ negsuc n ≡ pos (suc n) = omega (arith, ints) in
    let a = ap (λ (c : ℤ). c *ℤ x) e in
    let b = neg_suc n x in
    omega (arith, ints)

-- ---- ends of a place

end_by : (c low high : ℤ) (b d : Bool) → int_lt (pos 0 -ℤ c) (pos 0) ≡ b → int_lt c (pos 0) ≡ d → cond b high low ≡ cond d low high → (pos 0 -ℤ c) *ℤ cond (int_lt (pos 0 -ℤ c) (pos 0)) high low ≡ pos 0 -ℤ c *ℤ cond (int_lt c (pos 0)) low high
end_by c low high b d e f same =
    ap (λ (x : Bool). (pos 0 -ℤ c) *ℤ cond x high low) e
    ∙ ap (λ (x : ℤ). (pos 0 -ℤ c) *ℤ x) same
    ∙ neg_times c (cond d low high)
    ∙ ap (λ (x : Bool). pos 0 -ℤ c *ℤ cond x low high) (sym f)

end_of : (c low high : ℤ) → (pos 0 -ℤ c) *ℤ cond (int_lt (pos 0 -ℤ c) (pos 0)) high low ≡ pos 0 -ℤ c *ℤ cond (int_lt c (pos 0)) low high
end_of (pos zero) low high =
    let e : pos 0 -ℤ pos 0 ≡ pos 0 = omega (arith, ints) in
    let a = no_times (pos 0 -ℤ pos 0) (cond (int_lt (pos 0 -ℤ pos 0) (pos 0)) high low) e in
    let b = zero-*ℤ (cond (int_lt (pos 0) (pos 0)) low high) in
    omega (arith, ints)
end_of (pos (suc n)) low high =
    let e : int_lt (pos 0 -ℤ pos (suc n)) (pos 0) ≡ true = grind (arith, ints) in
    let f : int_lt (pos (suc n)) (pos 0) ≡ false = grind (arith, ints) in
    end_by (pos (suc n)) low high true false e f refl
end_of (negsuc n) low high =
    let e : int_lt (pos 0 -ℤ negsuc n) (pos 0) ≡ false = grind (arith, ints) in
    let f : int_lt (negsuc n) (pos 0) ≡ true = grind (arith, ints) in
    end_by (negsuc n) low high false true e f refl

pub low_product-opposite : (sets : List IntSet) (place : Place) → low_product sets (opposite_place place) ≡ pos 0 -ℤ high_product sets place
unfolding low_product high_product
low_product-opposite sets place = end_of place.coefficient (least_value sets place.term) (greatest_value sets place.term)

-- ---- sums

pub total-opposites : (f g : Place → ℤ) → ((place : Place) → f (opposite_place place) ≡ pos 0 -ℤ g place) → (places : List Place) → total_by f (opposites places) ≡ pos 0 -ℤ total_by g places
total-opposites f g each [] = omega (arith, ints)
total-opposites f g each (p ∷ places) =
    let rest = total-opposites f g each places in
    let here = each p in
    let a = total_by-cons f (opposite_place p) (opposites places) in
    let b = total_by-cons g p places in
    omega (arith, ints)

pub least_sum-opposites : (sets : List IntSet) (places : List Place) → least_sum sets (opposites places) ≡ pos 0 -ℤ greatest_sum sets places
least_sum-opposites sets places = total-opposites (low_product sets) (high_product sets) (low_product-opposite sets) places

pub sum_at-opposites : (values : List ℤ) (places : List Place) → sum_at values (opposites places) ≡ pos 0 -ℤ sum_at values places
sum_at-opposites values places = total-opposites (product_at values) (product_at values) (λ place. neg_times place.coefficient (term_value values place.term)) places

-- ---- twice

pub opposite-twice : (place : Place) → opposite_place (opposite_place place) ≡ place
opposite-twice place =
    let e : pos 0 -ℤ (pos 0 -ℤ place.coefficient) ≡ place.coefficient = omega (arith, ints) in
    ap (λ (c : ℤ). record { coefficient = c; term = place.term }) e

pub opposites-twice : (places : List Place) → opposites (opposites places) ≡ places
opposites-twice [] = refl
opposites-twice (p ∷ places) = ap₂ (λ (x : Place) (xs : List Place). x ∷ xs) (opposite-twice p) (opposites-twice places)

pub greatest_sum-opposites : (sets : List IntSet) (places : List Place) → greatest_sum sets (opposites places) ≡ pos 0 -ℤ least_sum sets places
greatest_sum-opposites sets places =
    let a = least_sum-opposites sets (opposites places) in
    let b = ap (λ (ps : List Place). least_sum sets ps) (opposites-twice places) in
    omega (arith, ints)

-- ---- they fit

abs_of_neg : (c : ℤ) → unsigned_abs (pos 0 -ℤ c) ≡ unsigned_abs c
abs_of_neg c = grind (arith, ints)

pub opposites_fit : (count : ℕ) (places : List Place) → All (IsPlace count) places → All (IsPlace count) (opposites places)
opposites_fit count places fit =
    All-map (IsPlace count) opposite_place places (All-weaker (IsPlace count) (λ (p : Place). IsPlace count (opposite_place p)) (λ p h. (h.0, small p h.1)) places fit)
  where
    small : (p : Place) → unsigned_abs p.coefficient ≤ 1000000000 → unsigned_abs (pos 0 -ℤ p.coefficient) ≤ 1000000000
    small p h = let e = abs_of_neg p.coefficient in omega arith

pub length-opposites : (places : List Place) → length (opposites places) ≡ length places
length-opposites places = length-map places opposite_place
