-- Entries of a list one after the other in an order by weight.
use Rattle.std.proofs.Common.{◌≡◌, ℕ, ◌+◌, ◌<◌, ◌≤◌, List, [], ◌∷◌, ◌++◌, take, true, length, get_or, sym, ap, ◌∙◌, subst, inl, inr, arith, ℤ, pos, ◌+ℤ◌, ◌≤ℤ◌, Option, None, Some, IfSome, Bor}
use Rattle.std.specs.Option.{option_copied}
use Rattle.std.proofs.lemmas.Int.{ints}
use Rattle.std.proofs.lemmas.Bool.{cases_lt}
use Rattle.std.proofs.lemmas.List.{get_or-take, length-take-le, get_or_default, get_or_append_left, get_or_push}
use Rattle.fzn_domain.specs.IntSet.{IntSet, contains}
use Rattle.fzn_meaning.specs.declared.row.Listed.{Listed}
use Rattle.fzn_meaning.specs.declared.row.VariablePart.{VariablePart}
use Rattle.fzn_meaning.specs.declared.row.Part.{Part}
use Rattle.fzn_meaning.specs.Separable.{weight_at}
use Rattle.fzn_rules.specs.Separable.{IsLeastOf, IsVariableWeightIn}
use Rattle.fzn_levels.specs.declared.by_weight.ByWeight.{ByWeight}
use Rattle.fzn_levels.specs.ByWeight.{IsByWeight, IsOrderOf, AreOrdersOf, HaveLighter}
use Rattle.fzn_levels.proofs.WeightLemmas.{some_is, listed_only}

-- what is listed at an index makes the part weigh so much
abbrev pub Weighs : VariablePart → Listed → ℕ → ℤ → Type 0
Weighs part listed i w = weight_at part (listed.low +ℤ pos i) ≡ Some w

-- the first so many weigh no less one after the other, and none weighs more than the last
abbrev pub AreRisingBefore : VariablePart → Listed → List ℕ → ℕ → Type 0
AreRisingBefore part listed order count = (j k : ℕ) (w x : ℤ) → j ≤ k → k < count → Weighs part listed (get_or order j 0) w → Weighs part listed (get_or order k 0) x → w ≤ℤ x

abbrev pub AreUpTo : VariablePart → Listed → List ℕ → ℕ → ℤ → Type 0
AreUpTo part listed order count last = (j : ℕ) (w : ℤ) → j < count → Weighs part listed (get_or order j 0) w → w ≤ℤ last

le_trans : (a b c : ℤ) → a ≤ℤ b → b ≤ℤ c → a ≤ℤ c
le_trans a b c h k = omega (arith, ints)

le_same : (a b : ℤ) → a ≡ b → a ≤ℤ b
le_same a b h = omega (arith, ints)

module _ (part : VariablePart) (listed : Listed) (order : List ℕ) (i : ℕ) (last weight : ℤ) (here : Weighs part listed (get_or order i 0) weight) where
  own : (k : ℕ) (w : ℤ) → k ≡ i → Weighs part listed (get_or order k 0) w → w ≡ weight
  own k w same is = some_is w weight (sym is ∙ ap (λ (n : ℕ). weight_at part (listed.low +ℤ pos (get_or order n 0))) same ∙ here)

  pub up_to_more : AreUpTo part listed order i last → last ≤ℤ weight → AreUpTo part listed order (i + 1) weight
  up_to_more before more j w below is = elim (cases_lt j i) [
    | inl earlier ↦ le_trans w last weight (before j w earlier is) more
    | inr past ↦ le_same w weight (own j w (omega arith) is)
  ]

  pub rising_more : AreRisingBefore part listed order i → AreUpTo part listed order i last → last ≤ℤ weight → AreRisingBefore part listed order (i + 1)
  rising_more before up_to more j k w x le below is also = elim (cases_lt k i) [
    | inl earlier ↦ before j k w x le earlier is also
    | inr past ↦
        let same : k ≡ i = omega arith in
        let w_le : w ≤ℤ weight = up_to_more up_to more j w (omega arith) is in
        subst (λ (y : ℤ). w ≤ℤ y) (sym (own k x same also)) w_le
  ]

pub inside_more : (order : List ℕ) (i count : ℕ) → i < length order → get_or order i 0 < count → ((k d : ℕ) → k < i → get_or order k d < count) → (k d : ℕ) → k < i + 1 → get_or order k d < count
inside_more order i count inside here before k d below = elim (cases_lt k i) [
  | inl earlier ↦ before k d earlier
  | inr past ↦
      let same : i ≡ k = omega arith in
      subst (λ (n : ℕ). get_or order n d < count) same (subst (λ (x : ℕ). x < count) (get_or_default order i 0 d inside) here)
]

-- one that weighs no less than the level, and all behind it
pub heavy_from : (part : VariablePart) (listed : Listed) (by_weight : ByWeight) (middle : ℕ) (level : ℤ) → IsByWeight part listed by_weight → (w : ℤ) → Weighs part listed (get_or by_weight.order.items middle 0) w → level ≤ℤ w → (k : ℕ) (x : ℤ) → middle ≤ k → k < length by_weight.order.items → Weighs part listed (get_or by_weight.order.items k 0) x → level ≤ℤ x
heavy_from part listed by_weight middle level is w at more k x le below weighs = le_trans level w x more (is.rising middle k w x le below at weighs)

-- those before a place, if none from there on weighs less than the level
pub lighter_before : (part : VariablePart) (listed : Listed) (by_weight : ByWeight) (level : ℤ) (end : ℕ) → IsByWeight part listed by_weight → end ≤ length by_weight.order.items → ((k : ℕ) (w : ℤ) → end ≤ k → k < length by_weight.order.items → Weighs part listed (get_or by_weight.order.items k 0) w → level ≤ℤ w) → HaveLighter part listed (Some level) (take end by_weight.order.items)
lighter_before part listed by_weight level end is within heavy i w inside weighs =
    let order = by_weight.order.items in
    let place = get_or by_weight.places.items i 0 in
    let there = is.places i w inside weighs in
    elim (cases_lt (get_or by_weight.places.items i 0) end) [
      | inl before ↦
          let count : length (take end by_weight.order.items) ≡ end = length-take-le end by_weight.order.items within in
          let below : get_or by_weight.places.items i 0 < length (take end by_weight.order.items) = omega (arith, count) in
          inl (place, below, get_or-take end order place i before ∙ get_or_default order place i 0 there.0 ∙ there.1)
      | inr past ↦ inr (heavy place w past there.0 (subst (λ (n : ℕ). Weighs part listed n w) (sym there.1) weighs))
    ]

-- ---- the least weight

abbrev pub NoneBefore : IntSet → VariablePart → Listed → List ℕ → ℕ → Type 0
NoneBefore set part listed order count = (j : ℕ) (w : ℤ) → j < count → contains set (listed.low +ℤ pos (get_or order j 0)) ≡ true → Weighs part listed (get_or order j 0) w → ⊥

module _ (set : IntSet) (part : VariablePart) (listed : Listed) (by_weight : ByWeight) (of : part.listed ≡ Some listed) (is : IsByWeight part listed by_weight) where
  -- a weight on the set stands in the order
  placed : (w : ℤ) → IsVariableWeightIn set part w → (place : ℕ) × (place < length by_weight.order.items) × (contains set (listed.low +ℤ pos (get_or by_weight.order.items place 0)) ≡ true) × Weighs part listed (get_or by_weight.order.items place 0) w
  placed w (v, member, weighs) =
      let at = listed_only part listed of v w weighs in
      let own : Weighs part listed at.0 w = subst (λ (x : ℤ). weight_at part x ≡ Some w) at.2 weighs in
      let there = is.places at.0 w at.1 own in
      let back = sym there.1 in
      (get_or by_weight.places.items at.0 0, there.0, subst (λ (n : ℕ). contains set (listed.low +ℤ pos n) ≡ true) back (subst (λ (x : ℤ). contains set x ≡ true) at.2 member), subst (λ (n : ℕ). Weighs part listed n w) back own)

  pub least_first : (i : ℕ) (least : ℤ) → NoneBefore set part listed by_weight.order.items i → contains set (listed.low +ℤ pos (get_or by_weight.order.items i 0)) ≡ true → Weighs part listed (get_or by_weight.order.items i 0) least → IsLeastOf (IsVariableWeightIn set part) (Some least)
  least_first i least none member weighs = (
    (listed.low +ℤ pos (get_or by_weight.order.items i 0), member, weighs),
    λ w weight.
        let at = placed w weight in
        elim (cases_lt at.0 i) [
          | inl earlier ↦ absurd (none at.0 w earlier at.2 at.3)
          | inr past ↦ is.rising i at.0 least w past at.1 weighs at.3
        ],
  )

  pub least_none : NoneBefore set part listed by_weight.order.items (length by_weight.order.items) → IsLeastOf (IsVariableWeightIn set part) None
  least_none none w weight = let at = placed w weight in none at.0 w at.1 at.2 at.3

-- ---- the orders of the parts

abbrev pub AreOrdersBefore : List Part → List (Option ByWeight) → ℕ → Type 0
AreOrdersBefore parts orders count = (k : ℕ) (p : Part) (by_weight : ByWeight) → k < count → get_or orders k None ≡ Some by_weight → IsOrderOf (get_or parts k p) by_weight

pub orders_more : (parts : List Part) (orders new : List (Option ByWeight)) (i : ℕ) (part : Part) (found : Option ByWeight) → i < length parts → length orders ≡ i → part ≡ get_or parts i part → new ≡ orders ++ found ∷ [] → IfSome found (IsOrderOf part) → AreOrdersBefore parts orders i → AreOrdersBefore parts new (i + 1)
orders_more parts orders new i part found inside count is same here before k p by_weight below at own listed variable of =
    let read : get_or (orders ++ found ∷ []) k None ≡ Some by_weight = ap (λ (xs : List (Option ByWeight)). get_or xs k None) (sym same) ∙ at in
    elim (cases_lt k i) [
      | inl earlier ↦ before k p by_weight earlier (sym (get_or_append_left orders (found ∷ []) None k (omega arith)) ∙ read) own listed variable of
      | inr past ↦
          let at_i : i ≡ k = omega arith in
          let some : found ≡ Some by_weight = sym (get_or_push orders found None k (omega arith)) ∙ read in
          subst (λ (o : Option ByWeight). IfSome o (IsOrderOf part)) some here own listed (is ∙ get_or_default parts i part p inside ∙ ap (λ (n : ℕ). get_or parts n p) at_i ∙ variable) of
    ]

-- the one that is lent at an index
pub lent_at : (parts : List Part) (orders : List (Option ByWeight)) (k : ℕ) (item : Option ByWeight) (found : Option (Bor ByWeight)) → AreOrdersOf parts orders → k < length parts → k < length orders → item ≡ get_or orders k item → option_copied found ≡ item → IfSome found (λ by_weight. (p : Part) → IsOrderOf (get_or parts k p) by_weight.now)
lent_at parts orders k item (Some by_weight) are inside below is copied = λ p. are k p by_weight.now inside (get_or_default orders k None item below ∙ sym is ∙ sym copied)
lent_at parts orders k item None are inside below is copied = tt
