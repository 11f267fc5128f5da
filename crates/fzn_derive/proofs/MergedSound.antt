-- Places sum up to what their constants give and what they are once put together.
use Rattle.std.proofs.Common.{◌≡◌, ℕ, zero, suc, ◌+◌, ◌<◌, ◌≤◌, Bool, true, false, cond, eqb, List, [], ◌∷◌, map, refl, sym, ap, ◌∙◌, inl, inr, arith, ℤ, pos, ◌+ℤ◌, ◌*ℤ◌}
use Rattle.std.specs.List.{filter, range_with_len, AllByRecursion}
use Rattle.std.specs.Ordering.{int_eq}
use Rattle.std.proofs.lemmas.Int.{ints}
use Rattle.std.proofs.lemmas.Bool.{eq-eqb, ne_eqb, cases_eq, not-false}
use Rattle.std.proofs.lemmas.Bool.Decides.{Decides-int_eq}
use Rattle.fzn_values.specs.declared.term.Term.{Term}
use Rattle.fzn_values.specs.declared.term.Term.TheVariants.{Constant, Variable}
use Rattle.fzn_values.specs.declared.term.Place.{Place}
use Rattle.fzn_domain.specs.Narrow.{IsVariable, value_of}
use Rattle.fzn_values.specs.Term.{term_value, product_at, sum_at}
use Rattle.fzn_builtin_rules.proofs.CallerLemmas.{total_by-cons}
use Rattle.fzn_derive.specs.Merged.{own_coefficient, coefficient_of, own_constant, constant_of, whole, has_weight, merged}
use Rattle.fzn_derive.proofs.IntLemmas.{plus_times, zero_times}
use Rattle.fzn_derive.proofs.MergedLemmas.{coefficient_of-nil, coefficient_of-cons, constant_of-nil, constant_of-cons}

-- a constant, or one of this many variables
abbrev pub IsAmong : ℕ → Term → Type 0
IsAmong count (Constant k) = Unit {0}
IsAmong count (Variable var) = IsVariable count var

-- ---- a place with coefficient 0 adds nothing

weightless : (p : Place) → has_weight p ≡ false → p.coefficient ≡ pos 0
weightless p none = (Decides-int_eq p.coefficient (pos 0)).0 (not-false (int_eq p.coefficient (pos 0)) none)

kept_if : (values : List ℤ) (p : Place) (rest kept : List Place) (b : Bool) → has_weight p ≡ b → sum_at values kept ≡ sum_at values rest → sum_at values (cond b (p ∷ kept) kept) ≡ product_at values p +ℤ sum_at values rest
kept_if values p rest kept true is same = let e = total_by-cons (product_at values) p kept in omega (arith, ints)
kept_if values p rest kept false is same =
    let zero_product : product_at values p ≡ pos 0 = ap (λ (c : ℤ). c *ℤ term_value values p.term) (weightless p is) ∙ zero_times (term_value values p.term) in
    omega (arith, ints)

sum-filter : (values : List ℤ) (places : List Place) → sum_at values (filter has_weight places) ≡ sum_at values places
sum-filter values [] = refl
sum-filter values (p ∷ places) = kept_if values p places (filter has_weight places) (has_weight p) refl (sum-filter values places) ∙ sym (total_by-cons (product_at values) p places)

-- ---- numbers times what stands for them, added up

dot : (ℕ → ℤ) → (ℕ → ℤ) → List ℕ → ℤ
dot f v [] = pos 0
dot f v (n ∷ ns) = f n *ℤ v n +ℤ dot f v ns

dot-same : (f g v : ℕ → ℤ) (ns : List ℕ) → ((n : ℕ) → f n ≡ g n) → dot f v ns ≡ dot g v ns
unfolding dot
dot-same f g v [] same = refl
dot-same f g v (n ∷ ns) same = let here = ap (λ (c : ℤ). c *ℤ v n) (same n) in let rest = dot-same f g v ns same in omega (arith, ints)

dot-plus : (f g v : ℕ → ℤ) (ns : List ℕ) → dot (λ n. f n +ℤ g n) v ns ≡ dot f v ns +ℤ dot g v ns
unfolding dot
dot-plus f g v [] = omega (arith, ints)
dot-plus f g v (n ∷ ns) = let here = plus_times (f n) (g n) (v n) in let rest = dot-plus f g v ns in omega (arith, ints)

dot-zero : (v : ℕ → ℤ) (ns : List ℕ) → dot (λ n. pos 0) v ns ≡ pos 0
unfolding dot
dot-zero v [] = refl
dot-zero v (n ∷ ns) = let here = zero_times (v n) in let rest = dot-zero v ns in omega (arith, ints)

-- a number below all of them counts at none of them
dot-before : (m : ℕ) (c : ℤ) (v : ℕ → ℤ) (a count : ℕ) → m < a → dot (λ n. cond (eqb n m) c (pos 0)) v (range_with_len a count) ≡ pos 0
unfolding dot
dot-before m c v a zero before = refl
dot-before m c v a (suc count) before =
    let rest = dot-before m c v (a + 1) count (omega arith) in
    let other = ap (λ (b : Bool). cond b c (pos 0) *ℤ v a) (ne_eqb a m (omega arith)) in
    let nothing = zero_times (v a) in
    omega (arith, ints)

-- one of them counts once
dot-one : (m : ℕ) (c : ℤ) (v : ℕ → ℤ) (a count : ℕ) → a ≤ m → m < a + count → dot (λ n. cond (eqb n m) c (pos 0)) v (range_with_len a count) ≡ c *ℤ v m
unfolding dot
dot-one m c v a zero from to = absurd (omega arith)
dot-one m c v a (suc count) from to = elim (cases_eq a m) [
  | inl same ↦
      let here = ap (λ (b : Bool). cond b c (pos 0) *ℤ v a) (eq-eqb a m same) in
      let its = ap (λ (n : ℕ). c *ℤ v n) same in
      let rest = dot-before m c v (a + 1) count (omega arith) in
      omega (arith, ints)
  | inr other ↦
      let here = ap (λ (b : Bool). cond b c (pos 0) *ℤ v a) (ne_eqb a m other) in
      let nothing = zero_times (v a) in
      let rest = dot-one m c v (a + 1) count (omega arith) (omega arith) in
      omega (arith, ints)
]

-- ---- places and numbers

abbrev var_value : List ℤ → ℕ → ℤ
var_value values n = value_of values (record { 0 = n })

sum-wholes : (values : List ℤ) (places : List Place) (ns : List ℕ) → sum_at values (map (whole places) ns) ≡ dot (λ n. coefficient_of n places) (var_value values) ns
unfolding dot
sum-wholes values places [] = refl
sum-wholes values places (n ∷ ns) =
    let rest = sum-wholes values places ns in
    let both = total_by-cons (product_at values) (whole places n) (map (whole places) ns) in
    omega (arith, ints)

-- a place gives what its constant gives and what its variable counts
place-split : (values : List ℤ) (count : ℕ) (c : ℤ) (term : Term) → IsAmong count term → c *ℤ term_value values term ≡ own_constant c term +ℤ dot (λ n. own_coefficient n c term) (var_value values) (range_with_len 1 count)
place-split values count c (Constant k) among = let e = dot-zero (var_value values) (range_with_len 1 count) in omega (arith, ints)
place-split values count c (Variable var) among = let e = dot-one var.0 c (var_value values) 1 count among.0 (omega arith) in omega (arith, ints)

sum-split : (values : List ℤ) (count : ℕ) (places : List Place) → AllByRecursion (λ (p : Place). IsAmong count p.term) places → sum_at values places ≡ constant_of places +ℤ dot (λ n. coefficient_of n places) (var_value values) (range_with_len 1 count)
sum-split values count [] among =
    let v = var_value values in
    let ns = range_with_len 1 count in
    let e = dot-same (λ n. coefficient_of n []) (λ n. pos 0) v ns coefficient_of-nil in
    let z = dot-zero v ns in
    let k = constant_of-nil in
    omega (arith, ints)
sum-split values count (p ∷ places) among =
    let v = var_value values in
    let ns = range_with_len 1 count in
    let rest = sum-split values count places among.1 in
    let here = place-split values count p.coefficient p.term among.0 in
    let sum = total_by-cons (product_at values) p places in
    let constants = constant_of-cons p places in
    let each = dot-same (λ n. coefficient_of n (p ∷ places)) (λ n. own_coefficient n p.coefficient p.term +ℤ coefficient_of n places) v ns (λ n. coefficient_of-cons n p places) in
    let both = dot-plus (λ n. own_coefficient n p.coefficient p.term) (λ n. coefficient_of n places) v ns in
    omega (arith, ints)

pub sum-merged : (values : List ℤ) (count : ℕ) (places : List Place) → AllByRecursion (λ (p : Place). IsAmong count p.term) places → sum_at values places ≡ constant_of places +ℤ sum_at values (merged count places)
unfolding merged
sum-merged values count places among =
    let split = sum-split values count places among in
    let wholes = sum-wholes values places (range_with_len 1 count) in
    let kept = sum-filter values (map (whole places) (range_with_len 1 count)) in
    omega (arith, ints)
