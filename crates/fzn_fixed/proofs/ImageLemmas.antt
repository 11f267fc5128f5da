-- Images by the kinds of constraints.
use Rattle.std.proofs.Common.{◌≡◌, ◌↔◌, ℕ, ◌+◌, ◌<◌, false, List, [], ◌∷◌, length, get_or, drop, sym, subst, ◌∙◌, inl, inr, arith, ℤ, pos, ◌≤ℤ◌, int_le, Option, Some, None, MatchOption}
use Rattle.std.proofs.lemmas.Int.{ints}
use Rattle.std.specs.List.{All}
use Rattle.std.proofs.lemmas.List.Elements.{All-contains, All-from_get_or, Contains-get_or}
use Rattle.std.proofs.lemmas.Bool.{cases_lt, cases_Bool}
use Rattle.fzn_domain.specs.IntSet.{IntSet}
use Rattle.fzn_values.specs.declared.term.Term.{Term}
use Rattle.fzn_meaning.specs.declared.arithmetic.Operation.{Operation}
use Rattle.fzn_meaning.specs.declared.extremum.Extreme.{Extreme}
use Rattle.fzn_meaning.specs.declared.extremum.Extreme.TheVariants.{Least, Greatest}
use Rattle.fzn_meaning.specs.declared.constraint.Constraint.TheVariants as constraint
use Rattle.fzn_meaning.specs.Arithmetic.{IsArithmetic, IsIntAbs}
use Rattle.fzn_meaning.specs.Booleans.{IsArrayBoolXor}
use Rattle.fzn_meaning.specs.Sets.{IsInSet}
use Rattle.fzn_builtin_rules.specs.Numbered.{IsOneOfTwo}
use Rattle.fzn_meaning.specs.Elements.{IsElement}
use Rattle.fzn_meaning.specs.Extrema.{Bounds, IsExtremum}
use Rattle.fzn_builtin_rules.specs.Choices.{result_of, Relates}
use Rattle.fzn_fixed.specs.declared.image.Image.{Image}
use Rattle.fzn_fixed.specs.Image.{Admits, IsImage}
use Rattle.fzn_terms.proofs.OrderLemmas.{at_most}

module _ (image : Image) where
  pub arithmetic_is : (operation : Operation) (left right of : Term) (values : List ℤ) → 2 ≡ length values → ((r : ℤ) → IsArithmetic operation (get_or values 0 (pos 0)) (get_or values 1 (pos 0)) r ↔ Admits image (Some r)) → IsImage (constraint.Arithmetic operation left right of) values image
  unfolding result_of Relates
  arithmetic_is operation left right of (a ∷ b ∷ []) count is = is
  arithmetic_is operation left right of [] count is = absurd (omega arith)
  arithmetic_is operation left right of (a ∷ []) count is = absurd (omega arith)
  arithmetic_is operation left right of (a ∷ b ∷ c ∷ rest) count is = absurd (omega arith)

  pub absolute_is : (of result : Term) (values : List ℤ) → 1 ≡ length values → ((r : ℤ) → IsIntAbs (get_or values 0 (pos 0)) r ↔ Admits image (Some r)) → IsImage (constraint.IntAbs of result) values image
  unfolding result_of Relates
  absolute_is of result (a ∷ []) count is = is
  absolute_is of result [] count is = absurd (omega arith)
  absolute_is of result (a ∷ b ∷ rest) count is = absurd (omega arith)

  pub extremum_is : (extreme : Extreme) (entries : List Term) (of : Term) (values : List ℤ) → ((r : ℤ) → IsExtremum extreme values r ↔ Admits image (Some r)) → IsImage (constraint.Extremum extreme entries of) values image
  unfolding result_of Relates
  extremum_is extreme entries of values is = is

  pub element_is : (index of : Term) (entries : List Term) (values : List ℤ) → 0 < length values → ((r : ℤ) → IsElement (get_or values 0 (pos 0)) (drop 1 values) r ↔ Admits image (Some r)) → IsImage (constraint.Element index entries of) values image
  unfolding result_of Relates
  element_is index of entries (i ∷ values) count is = is
  element_is index of entries [] count is = absurd (omega arith)

  pub member_is : (term : Term) (set : IntSet) (values : List ℤ) → 1 ≡ length values → IsInSet (get_or values 0 (pos 0)) set ↔ Admits image None → IsImage (constraint.SetIn term set None) values image
  unfolding result_of Relates
  member_is term set (x ∷ []) count is = is
  member_is term set [] count is = absurd (omega arith)
  member_is term set (x ∷ y ∷ rest) count is = absurd (omega arith)

  pub switched_member_is : (term switch : Term) (set : IntSet) (values : List ℤ) → 1 ≡ length values → ((r : ℤ) → ((r ≡ pos 1) ↔ IsInSet (get_or values 0 (pos 0)) set) ↔ Admits image (Some r)) → IsImage (constraint.SetIn term set (Some switch)) values image
  unfolding result_of Relates
  switched_member_is term switch set (x ∷ []) count is = is
  switched_member_is term switch set [] count is = absurd (omega arith)
  switched_member_is term switch set (x ∷ y ∷ rest) count is = absurd (omega arith)

  pub xor_is : (left right of : Term) (values : List ℤ) → 2 ≡ length values → ((r : ℤ) → ((r ≡ pos 1) ↔ IsOneOfTwo (get_or values 0 (pos 0)) (get_or values 1 (pos 0))) ↔ Admits image (Some r)) → IsImage (constraint.BoolXor left right of) values image
  unfolding result_of Relates
  xor_is left right of (a ∷ b ∷ []) count is = is
  xor_is left right of [] count is = absurd (omega arith)
  xor_is left right of (a ∷ []) count is = absurd (omega arith)
  xor_is left right of (a ∷ b ∷ c ∷ rest) count is = absurd (omega arith)

  pub odd_is : (inputs : List Term) (values : List ℤ) → IsArrayBoolXor values ↔ Admits image None → IsImage (constraint.ArrayBoolXor inputs) values image
  unfolding result_of Relates
  odd_is inputs values is = is

-- ---- entries

bounds_same : (extreme : Extreme) (a b : ℤ) → Bounds extreme a b → Bounds extreme b a → a ≡ b
bounds_same Least a b h k = omega (arith, ints)
bounds_same Greatest a b h k = omega (arith, ints)

-- a list has one extremum
pub one_extremum : (extreme : Extreme) (xs : List ℤ) (a b : ℤ) → IsExtremum extreme xs a → IsExtremum extreme xs b → a ≡ b
one_extremum extreme xs a b h k =
    bounds_same extreme a b (All-contains (Bounds extreme a) xs b h.1 k.0) (All-contains (Bounds extreme b) xs a k.1 h.0)

-- ---- one statement for another

pub same_then : (A B C : Type 0) → A ↔ B → A ↔ C → B ↔ C
same_then A B C same is = (λ b. is.0 (same.1 b), λ c. same.0 (is.1 c))

pub switched_then : (A B C : Type 0) (r : ℤ) → A ↔ B → ((r ≡ pos 1) ↔ A) ↔ C → ((r ≡ pos 1) ↔ B) ↔ C
switched_then A B C r same is = (
  λ switched. is.0 (λ one. same.1 (switched.0 one), λ a. switched.1 (same.0 a)),
  λ c. let switched = is.1 c in (λ one. same.0 (switched.0 one), λ b. switched.1 (same.1 b)),
)

-- a member with a switch or without
pub any_member_is : (term : Term) (set : IntSet) (switch : Option Term) (values : List ℤ) (image : Image) (P : Type 0) → 1 ≡ length values → P ↔ IsInSet (get_or values 0 (pos 0)) set → MatchOption switch (P ↔ Admits image None) (λ _. (r : ℤ) → ((r ≡ pos 1) ↔ P) ↔ Admits image (Some r)) → IsImage (constraint.SetIn term set switch) values image
any_member_is term set None values image P count same is = member_is image term set values count (same_then P _ (Admits image None) same is)
any_member_is term set (Some switch) values image P count same is = switched_member_is image term switch set values count (λ r. switched_then P _ (Admits image (Some r)) r same (is r))

-- ---- the extremum so far

le_other : (a b : ℤ) → int_le a b ≡ false → b ≤ℤ a
le_other a b h = grind (arith, ints)

either_bounds : (extreme : Extreme) (a b : ℤ) → (Bounds extreme a b → ⊥) → Bounds extreme b a
either_bounds Least a b h = elim (cases_Bool (int_le a b)) [ inl holds ↦ absurd (h (at_most a b holds)) | inr fails ↦ le_other a b fails ]
either_bounds Greatest a b h = elim (cases_Bool (int_le b a)) [ inl holds ↦ absurd (h (at_most b a holds)) | inr fails ↦ le_other b a fails ]

bounds_self : (extreme : Extreme) (a : ℤ) → Bounds extreme a a
bounds_self Least a = omega (arith, ints)
bounds_self Greatest a = omega (arith, ints)

bounds_trans : (extreme : Extreme) (a b c : ℤ) → Bounds extreme a b → Bounds extreme b c → Bounds extreme a c
bounds_trans Least a b c h k = omega (arith, ints)
bounds_trans Greatest a b c h k = omega (arith, ints)

-- the entry at this place bounds those before another
abbrev pub BoundsBefore : Extreme → List ℤ → ℕ → ℕ → Type 0
BoundsBefore extreme xs best i = (k : ℕ) → k < i → Bounds extreme (get_or xs best (pos 0)) (get_or xs k (pos 0))

pub still_best : (extreme : Extreme) (xs : List ℤ) (best i : ℕ) → BoundsBefore extreme xs best i → Bounds extreme (get_or xs best (pos 0)) (get_or xs i (pos 0)) → BoundsBefore extreme xs best (i + 1)
still_best extreme xs best i before here k below = elim (cases_lt k i) [
  | inl inside ↦ before k inside
  | inr past ↦ let same : i ≡ k = omega arith in subst (λ (n : ℕ). Bounds extreme (get_or xs best (pos 0)) (get_or xs n (pos 0))) same here
]

pub new_best : (extreme : Extreme) (xs : List ℤ) (best i : ℕ) → BoundsBefore extreme xs best i → (Bounds extreme (get_or xs best (pos 0)) (get_or xs i (pos 0)) → ⊥) → BoundsBefore extreme xs i (i + 1)
new_best extreme xs best i before fails k below = elim (cases_lt k i) [
  | inl inside ↦ bounds_trans extreme _ (get_or xs best (pos 0)) _ (either_bounds extreme _ _ fails) (before k inside)
  | inr past ↦ let same : i ≡ k = omega arith in subst (λ (n : ℕ). Bounds extreme (get_or xs i (pos 0)) (get_or xs n (pos 0))) same (bounds_self extreme (get_or xs i (pos 0)))
]

pub extremum_at : (extreme : Extreme) (xs : List ℤ) (best : ℕ) (x r : ℤ) → best < length xs → BoundsBefore extreme xs best (length xs) → x ≡ get_or xs best (pos 0) → IsExtremum extreme xs r ↔ (r ≡ x)
extremum_at extreme xs best x r inside bounds is =
    let all : All (Bounds extreme (get_or xs best (pos 0))) xs = All-from_get_or (Bounds extreme (get_or xs best (pos 0))) xs (pos 0) bounds in
    let there : IsExtremum extreme xs (get_or xs best (pos 0)) = (Contains-get_or xs best (pos 0) inside, all) in (
      λ h. one_extremum extreme xs r (get_or xs best (pos 0)) h there ∙ sym is,
      λ h. subst (λ (v : ℤ). IsExtremum extreme xs v) (sym (h ∙ is)) there,
    )

pub none_empty : (extreme : Extreme) (xs : List ℤ) (r : ℤ) → length xs ≡ 0 → IsExtremum extreme xs r → ⊥
none_empty extreme xs r none h = let below = h.0.1 in absurd (omega arith)
