-- Prices, one more at a time.
use Rattle.std.proofs.Common.{◌≡◌, ℕ, zero, suc, ◌+◌, ◌*◌, ◌<◌, ◌≤◌, Bool, true, false, ◌&&◌, nat_le, List, [], ◌∷◌, ◌++◌, length, get_or, take, refl, sym, ap, ◌∙◌, subst, arith, ℤ, pos, negsuc, ◌+ℤ◌, ◌-ℤ◌, ◌*ℤ◌, ◌≤ℤ◌, int_le, int_lt, cond, unsigned_abs, Option, FitsSigned, w64, to_z, of_z}
use Rattle.std.specs.List.{list_all}
use Rattle.std.specs.Int.{int_min}
use Rattle.std.specs.Option.{option_map}
use Rattle.std.proofs.lemmas.Int.{ints, to_z-of_z, to_z_pos, fits_signed_from_abs, unsigned_abs-mul}
use Rattle.std.proofs.Math.Nat.{mul-le-mul}
use mir.Syntax.{w128}
use Rattle.std.proofs.lemmas.Bool.{ne_eqb, and_parts}
use Rattle.std.proofs.lemmas.Bool.Decides.{nat_tests}
use Rattle.std.proofs.lemmas.List.{take_more, get_or_past, length-take}
use Rattle.fzn_domain.specs.IntSet.{IntSet, size, least, greatest}
use Rattle.fzn_meaning.specs.declared.row.Listed.{Listed}
use Rattle.fzn_meaning.specs.Separable.{listed_at}
use Rattle.fzn_weights.specs.Prices.{price_in, price_at, entries_from, total_price, least_price, is_price, are_prices, is_set_within}

price_small : (price : ℤ) → is_price price ≡ true → unsigned_abs price ≤ 1000000000000
price_small price h = grind (arith, nat_tests)

pub prices-small : (prices : List ℤ) (k : ℕ) (d : ℤ) → list_all is_price prices ≡ true → k < length prices → unsigned_abs (get_or prices k d) ≤ 1000000000000
prices-small [] k d all inside = absurd (omega arith)
prices-small (price ∷ prices) zero d all inside = price_small price (and_parts (is_price price) (list_all is_price prices) all).0
prices-small (price ∷ prices) (suc k) d all inside = prices-small prices k d (and_parts (is_price price) (list_all is_price prices) all).1 (omega arith)

total-push : (prices : List ℤ) (price : ℤ) → total_price (prices ++ price ∷ []) ≡ total_price prices +ℤ price
total-push [] price = omega (arith, ints)
total-push (p ∷ prices) price = let e = total-push prices price in omega (arith, ints)

min_swap : (a b c : ℤ) → int_min a (cond (int_lt c b) c b) ≡ cond (int_lt c (int_min a b)) c (int_min a b)
min_swap a b c = grind (arith, ints)

min_zero : (price : ℤ) → int_min price (pos 0) ≡ cond (int_lt price (pos 0)) price (pos 0)
min_zero price = grind (arith, ints)

least-push : (prices : List ℤ) (price : ℤ) → least_price (prices ++ price ∷ []) ≡ cond (int_lt price (least_price prices)) price (least_price prices)
least-push [] price = min_zero price
least-push (p ∷ prices) price = ap (int_min p) (least-push prices price) ∙ min_swap p (least_price prices) price

module _ (prices : List ℤ) (i : ℕ) (d : ℤ) (inside : i < length prices) where
  pub total-more : (total after : ℤ) → total ≡ total_price (take i prices) → after ≡ total +ℤ get_or prices i d → after ≡ total_price (take (i + 1) prices)
  total-more total after so_far is =
      is ∙ ap (λ (x : ℤ). x +ℤ get_or prices i d) so_far ∙ sym (ap total_price (take_more prices i d inside) ∙ total-push (take i prices) (get_or prices i d))

  pub least-more : (least : ℤ) → least ≡ least_price (take i prices) → cond (int_lt (get_or prices i d) least) (get_or prices i d) least ≡ least_price (take (i + 1) prices)
  least-more least so_far =
      ap (λ (x : ℤ). cond (int_lt (get_or prices i d) x) (get_or prices i d) x) so_far ∙ sym (ap least_price (take_more prices i d inside) ∙ least-push (take i prices) (get_or prices i d))

-- ---- entries

one_on : (low : ℤ) (n : ℕ) → (low +ℤ pos 1) +ℤ pos n ≡ low +ℤ pos (suc n)
one_on low n = omega (arith, ints)

entries-push : (low : ℤ) (prices : List ℤ) (price : ℤ) (old : Option Listed) → entries_from low (prices ++ price ∷ []) old ≡ entries_from low prices old ++ option_map (λ w. w +ℤ price) (listed_at old (low +ℤ pos (length prices))) ∷ []
entries-push low [] price old = ap (λ (v : ℤ). option_map (λ w. w +ℤ price) (listed_at old v) ∷ []) (omega (arith, ints))
entries-push low (p ∷ prices) price old =
    ap (λ (es : List (Option ℤ)). option_map (λ w. w +ℤ p) (listed_at old low) ∷ es) (entries-push (low +ℤ pos 1) prices price old
    ∙ ap (λ (v : ℤ). entries_from (low +ℤ pos 1) prices old ++ option_map (λ w. w +ℤ price) (listed_at old v) ∷ []) (one_on low (length prices)))

pub entries-more : (low : ℤ) (prices : List ℤ) (i : ℕ) (d value : ℤ) (old : Option Listed) (entry : Option ℤ) → i < length prices → value ≡ low +ℤ pos i → entry ≡ option_map (λ w. w +ℤ get_or prices i d) (listed_at old value)
    → entries_from low (take (i + 1) prices) old ≡ entries_from low (take i prices) old ++ entry ∷ []
entries-more low prices i d value old entry inside value_is is =
    let count : length (take i prices) ≡ i = omega (arith, length-take i prices) in
    ap (λ (ps : List ℤ). entries_from low ps old) (take_more prices i d inside) ∙ entries-push low (take i prices) (get_or prices i d) old
    ∙ ap (λ (n : ℕ). entries_from low (take i prices) old ++ option_map (λ w. w +ℤ get_or prices i d) (listed_at old (low +ℤ pos n)) ∷ []) count
    ∙ ap (λ (v : ℤ). entries_from low (take i prices) old ++ option_map (λ w. w +ℤ get_or prices i d) (listed_at old v) ∷ []) (sym value_is)
    ∙ ap (λ (e : Option ℤ). entries_from low (take i prices) old ++ e ∷ []) (sym is)

pub length-entries : (low : ℤ) (prices : List ℤ) (old : Option Listed) → length (entries_from low prices old) ≡ length prices
length-entries low [] old = refl
length-entries low (p ∷ prices) old = ap (λ (n : ℕ). suc n) (length-entries (low +ℤ pos 1) prices old)

-- ---- one price

pub price-inside : (low value : ℤ) (prices : List ℤ) (k : ℕ) → value -ℤ low ≡ pos k → price_at low prices value ≡ get_or prices k (pos 0)
price-inside low value prices k is = ap (price_in prices) is

pub price-outside : (low value : ℤ) (prices : List ℤ) (distance : ℤ) → value -ℤ low ≡ distance → (pos (length prices) ≤ℤ distance → price_at low prices value ≡ pos 0)
price-outside low value prices (pos k) is past = ap (price_in prices) is ∙ get_or_past prices k (pos 0) (omega (arith, ints))
price-outside low value prices (negsuc k) is past = ap (price_in prices) is

pub set_within : (low high : ℤ) (set : IntSet) (test : Bool) → (size set ≡ 0 → ⊥) → low ≤ℤ least set → test ≡ int_le (greatest set) high → test ≡ is_set_within low high set
set_within low high set test some above is =
    rw (ne_eqb (size set) 0 some, le_test low (least set) above) is
  where
    le_test : (a b : ℤ) → a ≤ℤ b → int_le a b ≡ true
    le_test a b h = grind (arith, ints)

-- ---- the most that places cost, in 128 bits

module _ (total least : ℤ) (n m : ℕ) (total_small : unsigned_abs total ≤ 65536 * 1000000000000) (least_small : unsigned_abs least ≤ 1000000000000) (n_few : n ≤ 65536) (m_few : m ≤ 100000) where
  spare_small : unsigned_abs (pos n -ℤ pos m) ≤ 100000
  spare_small = grind (arith, ints)

  product_small : unsigned_abs ((pos n -ℤ pos m) *ℤ least) ≤ 100000 * 1000000000000
  product_small = rw (unsigned_abs-mul (pos n -ℤ pos m) least) (mul-le-mul spare_small least_small)

  pub cost-bounded : unsigned_abs (total -ℤ (pos n -ℤ pos m) *ℤ least) ≤ 1000000000000000000000000000000
  cost-bounded =
      let p = product_small in
      let both : unsigned_abs (total -ℤ (pos n -ℤ pos m) *ℤ least) ≤ unsigned_abs total + unsigned_abs ((pos n -ℤ pos m) *ℤ least) = minus_small total ((pos n -ℤ pos m) *ℤ least) in
      omega arith
    where
      minus_small : (a b : ℤ) → unsigned_abs (a -ℤ b) ≤ unsigned_abs a + unsigned_abs b
      minus_small a b = grind (arith, ints)

  n_is : to_z w128 n ≡ pos n
  n_is = to_z_pos w128 n (omega arith)

  m_is : to_z w128 m ≡ pos m
  m_is = to_z_pos w128 m (omega arith)

  total_fits : FitsSigned w128 total
  total_fits = fits_signed_from_abs w128 total (omega arith)

  narrow_fits : FitsSigned w64 least
  narrow_fits = fits_signed_from_abs w64 least (omega arith)

  wide_fits : FitsSigned w128 least
  wide_fits = fits_signed_from_abs w128 least (omega arith)

  spare_fits : FitsSigned w128 (pos n -ℤ pos m)
  spare_fits = let s = spare_small in fits_signed_from_abs w128 (pos n -ℤ pos m) (omega arith)

  product_fits : FitsSigned w128 ((pos n -ℤ pos m) *ℤ least)
  product_fits = let p = product_small in fits_signed_from_abs w128 ((pos n -ℤ pos m) *ℤ least) (omega arith)

  cost_fits : FitsSigned w128 (total -ℤ (pos n -ℤ pos m) *ℤ least)
  cost_fits = let p = cost-bounded in fits_signed_from_abs w128 (total -ℤ (pos n -ℤ pos m) *ℤ least) (omega arith)

  plain : to_z w128 (of_z w128 total) -ℤ to_z w128 (of_z w128 (to_z w128 (of_z w128 (to_z w128 n -ℤ to_z w128 m)) *ℤ to_z w128 (of_z w128 (to_z w64 (of_z w64 least))))) ≡ total -ℤ (pos n -ℤ pos m) *ℤ least
  plain = rw (n_is, m_is, to_z-of_z w64 least narrow_fits, to_z-of_z w128 least wide_fits, to_z-of_z w128 (pos n -ℤ pos m) spare_fits, to_z-of_z w128 total total_fits, to_z-of_z w128 ((pos n -ℤ pos m) *ℤ least) product_fits) refl

  pub cost-fits : FitsSigned w128 (to_z w128 (of_z w128 total) -ℤ to_z w128 (of_z w128 (to_z w128 (of_z w128 (to_z w128 n -ℤ to_z w128 m)) *ℤ to_z w128 (of_z w128 (to_z w64 (of_z w64 least))))))
  cost-fits = subst (FitsSigned w128) (sym plain) cost_fits

  pub cost-value : to_z w128 (of_z w128 (to_z w128 (of_z w128 total) -ℤ to_z w128 (of_z w128 (to_z w128 (of_z w128 (to_z w128 n -ℤ to_z w128 m)) *ℤ to_z w128 (of_z w128 (to_z w64 (of_z w64 least))))))) ≡ total -ℤ (pos n -ℤ pos m) *ℤ least
  cost-value = ap (λ (x : ℤ). to_z w128 (of_z w128 x)) plain ∙ to_z-of_z w128 (total -ℤ (pos n -ℤ pos m) *ℤ least) cost_fits

-- ---- the test of prices

value_small : (low : ℤ) → nat_le (unsigned_abs low) 1000000000 ≡ true → unsigned_abs low ≤ 1000000000
value_small low h = grind (arith, nat_tests)

few_enough : (n : ℕ) → nat_le n 65536 ≡ true → n ≤ 65536
few_enough n h = grind (arith, nat_tests)

pub prices-facts : (low : ℤ) (prices : List ℤ) → are_prices low prices ≡ true → (unsigned_abs low ≤ 1000000000) × (length prices ≤ 65536) × (list_all is_price prices ≡ true)
prices-facts low prices h =
    let last = and_parts (nat_le (unsigned_abs low) 1000000000 && nat_le (length prices) 65536) (list_all is_price prices) h in
    let first = and_parts (nat_le (unsigned_abs low) 1000000000) (nat_le (length prices) 65536) last.0 in
    (value_small low first.0, few_enough (length prices) first.1, last.1)

pub abs_pos : (x cast : ℤ) → cast ≡ x → int_lt cast (pos 0) ≡ false → x ≡ pos (unsigned_abs cast)
abs_pos x cast is h = grind (arith, ints)
