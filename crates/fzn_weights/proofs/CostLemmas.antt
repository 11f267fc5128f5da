-- Values that are all different cost no more than all values do.
use Rattle.std.proofs.Common.{◌≡◌, ◌≢◌, ℕ, zero, suc, ◌<◌, List, [], ◌∷◌, map, length, get_or, set, refl, sym, ap, ◌∙◌, subst, arith, ℤ, pos, negsuc, ◌+ℤ◌, ◌-ℤ◌, ◌*ℤ◌, ◌≤ℤ◌, All}
use Rattle.std.specs.Int.{int_min}
use Rattle.std.proofs.lemmas.Int.{ints}
use Rattle.std.proofs.lemmas.List.{get_or-set_other, length-set, get_or-map, length-map}
use Rattle.std.proofs.lemmas.List.Elements.{All-head, All-tail, All-nil, All-cons, All-set}
use Rattle.fzn_values.specs.AllDifferent.{IsAllDifferent}
use Rattle.fzn_dependence.proofs.IntLemmas.{plus_times}
use Rattle.fzn_weights.specs.Prices.{price_in, price_at, total_price, least_price, most_cost}

-- the value has one of so many prices from low on
abbrev pub HasPrice : ℤ → ℕ → ℤ → Type 0
HasPrice low count value = (k : ℕ) × (value -ℤ low ≡ pos k) × (k < count)

-- what the values cost together
abbrev pub cost_of : ℤ → List ℤ → List ℤ → ℤ
cost_of low prices [] = pos 0
cost_of low prices (x ∷ xs) = price_at low prices x +ℤ cost_of low prices xs

abbrev AreNotNegative : List ℤ → Type 0
AreNotNegative prices = All (λ (price : ℤ). pos 0 ≤ℤ price) prices

total-not_negative : (prices : List ℤ) → AreNotNegative prices → pos 0 ≤ℤ total_price prices
total-not_negative [] all = omega (arith, ints)
total-not_negative (p ∷ prices) all =
    let here = All-head (λ (price : ℤ). pos 0 ≤ℤ price) p prices all in
    let rest = total-not_negative prices (All-tail (λ (price : ℤ). pos 0 ≤ℤ price) p prices all) in
    omega (arith, ints)

total-set : (prices : List ℤ) (k : ℕ) → k < length prices → total_price (set prices k (pos 0)) +ℤ get_or prices k (pos 0) ≡ total_price prices
total-set [] k inside = absurd (omega arith)
total-set (p ∷ prices) zero inside = omega (arith, ints)
total-set (p ∷ prices) (suc k) inside = let e = total-set prices k (omega arith) in omega (arith, ints)

-- a value that differs keeps its price when that of another is taken away
other-price : (low x y : ℤ) (prices : List ℤ) (k : ℕ) (distance : ℤ) → x -ℤ low ≡ pos k → y -ℤ low ≡ distance → x ≢ y → price_in (set prices k (pos 0)) distance ≡ price_in prices distance
other-price low x y prices k (pos j) x_is y_is other = get_or-set_other prices k j (pos 0) (pos 0) (λ same. other (let e = ap (λ (n : ℕ). pos n) same in omega (arith, ints)))
other-price low x y prices k (negsuc j) x_is y_is other = refl

other-costs : (low x : ℤ) (prices : List ℤ) (k : ℕ) (xs : List ℤ) → x -ℤ low ≡ pos k → All (λ (y : ℤ). x ≢ y) xs → cost_of low (set prices k (pos 0)) xs ≡ cost_of low prices xs
other-costs low x prices k [] is others = refl
other-costs low x prices k (y ∷ ys) is others =
    let here = other-price low x y prices k (y -ℤ low) is refl (All-head (λ (y : ℤ). x ≢ y) y ys others) in
    let rest = other-costs low x prices k ys is (All-tail (λ (y : ℤ). x ≢ y) y ys others) in
    omega (arith, ints)

different-head : (x : ℤ) (xs : List ℤ) → IsAllDifferent (x ∷ xs) → All (λ (y : ℤ). x ≢ y) xs
different-head x xs different k d inside = different 0 (suc k) d (omega arith) (omega arith)

different-tail : (x : ℤ) (xs : List ℤ) → IsAllDifferent (x ∷ xs) → IsAllDifferent xs
different-tail x xs different i j d before inside = different (suc i) (suc j) d (omega arith) (omega arith)

cost-le : (low : ℤ) (prices xs : List ℤ) → AreNotNegative prices → IsAllDifferent xs → All (HasPrice low (length prices)) xs → cost_of low prices xs ≤ℤ total_price prices
cost-le low prices [] positive different priced = total-not_negative prices positive
cost-le low prices (x ∷ xs) positive different priced =
    let at = All-head (HasPrice low (length prices)) x xs priced in
    let k = at.0 in
    let less = set prices k (pos 0) in
    let same = length-set prices k (pos 0) in
    let zero_up : pos 0 ≤ℤ pos 0 = omega (arith, ints) in
    let rest = cost-le low less xs (All-set (λ (price : ℤ). pos 0 ≤ℤ price) prices k (pos 0) zero_up positive) (different-tail x xs different)
    (subst (λ (n : ℕ). All (HasPrice low n) xs) (sym same) (All-tail (HasPrice low (length prices)) x xs priced)) in
    let others = other-costs low x prices k xs at.1 (different-head x xs different) in
    let total = total-set prices k at.2 in
    let here : price_at low prices x ≡ get_or prices k (pos 0) = ap (price_in prices) at.1 in
    omega (arith, ints)

-- ---- prices less the least one

module _ (least : ℤ) where
  abbrev more_than : List ℤ → List ℤ
  more_than prices = map (λ (price : ℤ). price -ℤ least) prices

  total-more_than : (prices : List ℤ) → total_price (more_than prices) ≡ total_price prices -ℤ pos (length prices) *ℤ least
  total-more_than [] = omega (arith, ints)
  total-more_than (p ∷ prices) =
      let rest = total-more_than prices in
      let e = one_more (length prices) in
      omega (arith, ints)
    where
      one_more : (n : ℕ) → pos (suc n) *ℤ least ≡ pos n *ℤ least +ℤ least
      one_more n =
          let a : pos (suc n) ≡ pos n +ℤ pos 1 = omega (arith, ints) in
          let b = plus_times (pos n) (pos 1) least in
          let d = ap (λ (x : ℤ). x *ℤ least) a in
          omega (arith, ints)

  cost-more_than : (low : ℤ) (prices xs : List ℤ) → All (HasPrice low (length prices)) xs → cost_of low (more_than prices) xs ≡ cost_of low prices xs -ℤ pos (length xs) *ℤ least
  cost-more_than low prices [] priced = omega (arith, ints)
  cost-more_than low prices (x ∷ xs) priced =
      let at = All-head (HasPrice low (length prices)) x xs priced in
      let rest = cost-more_than low prices xs (All-tail (HasPrice low (length prices)) x xs priced) in
      let here : price_at low (more_than prices) x ≡ price_at low prices x -ℤ least =
      ap (price_in (more_than prices)) at.1 ∙ get_or-map (λ (price : ℤ). price -ℤ least) prices at.0 (pos 0) (pos 0) at.2 ∙ ap (λ (y : ℤ). y -ℤ least) (sym (ap (price_in prices) at.1)) in
      let e = one_more (length xs) in
      omega (arith, ints)
    where
      one_more : (n : ℕ) → pos (suc n) *ℤ least ≡ pos n *ℤ least +ℤ least
      one_more n =
          let a : pos (suc n) ≡ pos n +ℤ pos 1 = omega (arith, ints) in
          let b = plus_times (pos n) (pos 1) least in
          let d = ap (λ (x : ℤ). x *ℤ least) a in
          omega (arith, ints)

min_left : (a b c : ℤ) → c ≤ℤ int_min a b → c ≤ℤ a
min_left a b c h = grind (arith, ints)

min_right : (a b c : ℤ) → c ≤ℤ int_min a b → c ≤ℤ b
min_right a b c h = grind (arith, ints)

not_negative : (least : ℤ) (prices : List ℤ) → least ≤ℤ least_price prices → AreNotNegative (map (λ (price : ℤ). price -ℤ least) prices)
not_negative least [] h = All-nil (λ (price : ℤ). pos 0 ≤ℤ price)
not_negative least (p ∷ prices) h =
    let here = min_left p (least_price prices) least h in
    All-cons (λ (price : ℤ). pos 0 ≤ℤ price) (p -ℤ least) (map (λ (price : ℤ). price -ℤ least) prices) (omega (arith, ints)) (not_negative least prices (min_right p (least_price prices) least h))

pub cost-most : (low : ℤ) (prices xs : List ℤ) → IsAllDifferent xs → All (HasPrice low (length prices)) xs → cost_of low prices xs ≤ℤ most_cost (length xs) prices
cost-most low prices xs different priced =
    let least = least_price prices in
    let same : length (map (λ (price : ℤ). price -ℤ least) prices) ≡ length prices = length-map prices (λ (price : ℤ). price -ℤ least) in
    let bound = cost-le low (map (λ (price : ℤ). price -ℤ least) prices) xs (not_negative least prices (omega (arith, ints))) different (subst (λ (n : ℕ). All (HasPrice low n) xs) (sym same) priced) in
    let cost = cost-more_than least low prices xs priced in
    let total = total-more_than least prices in
    let parted : (pos (length prices) -ℤ pos (length xs)) *ℤ least ≡ pos (length prices) *ℤ least -ℤ pos (length xs) *ℤ least = minus_times (pos (length prices)) (pos (length xs)) least in
    omega (arith, ints)
  where
    minus_times : (a b v : ℤ) → (a -ℤ b) *ℤ v ≡ a *ℤ v -ℤ b *ℤ v
    minus_times a b v =
        let e : a ≡ (a -ℤ b) +ℤ b = omega (arith, ints) in
        let f = plus_times (a -ℤ b) b v in
        let g = ap (λ (x : ℤ). x *ℤ v) e in
        omega (arith, ints)
