-- Sums and the variables of places, one more place at a time.
use Rattle.std.proofs.Common.{◌≡◌, ℕ, ◌+◌, ◌<◌, ◌≤◌, Bool, true, false, cond, nat_eq, List, [], ◌∷◌, ◌++◌, length, get_or, take, drop, refl, sym, ap, ◌∙◌, subst, arith, ℤ, pos, ◌+ℤ◌, ◌*ℤ◌, Option, None, Some, option_and_then}
use Rattle.std.specs.Option.{option_map_or}
use Rattle.std.proofs.lemmas.Int.{ints}
use Rattle.std.proofs.lemmas.List.{take_all, take_more, drop_more, take-append-drop}
use Rattle.fzn_domain.specs.declared.literal.VarId.{VarId}
use Rattle.fzn_values.specs.declared.term.Term.{Term}
use Rattle.fzn_values.specs.declared.term.Term.TheVariants.{Constant, Variable}
use Rattle.fzn_values.specs.declared.term.Place.{Place}
use Rattle.fzn_meaning.specs.declared.constraint.Constraint.{Constraint}
use Rattle.fzn_meaning.specs.declared.constraint.Constraint.TheVariants.{Element}
use Rattle.fzn_builtin_rules.specs.Form.{Form, form_of}
use Rattle.fzn_dependence.specs.Decided.{term_where, sum_where, coefficient_besides, another_in, another_of, form_value, decided_in}
use Rattle.fzn_dependence.proofs.IntLemmas.{plus_times}

module _ (var : VarId) (value other : ℤ) where
  abbrev pub Product : Place → ℤ
  Product place = place.coefficient *ℤ term_where var value other place.term

  sum-push : (places : List Place) (place : Place) → sum_where var value other (places ++ place ∷ []) ≡ sum_where var value other places +ℤ Product place
  sum-push [] place = omega (arith, ints)
  sum-push (p ∷ places) place = let e = sum-push places place in omega (arith, ints)

  pub sum-more : (places : List Place) (i : ℕ) (d : Place) (sum after : ℤ) → i < length places → sum ≡ sum_where var value other (take i places) → after ≡ sum +ℤ Product (get_or places i d) → after ≡ sum_where var value other (take (i + 1) places)
  sum-more places i d sum after inside so_far is =
      is ∙ ap (λ (x : ℤ). x +ℤ Product (get_or places i d)) so_far ∙ sym (ap (sum_where var value other) (take_more places i d inside) ∙ sum-push (take i places) (get_or places i d))

-- numbers by which the sum over the places is, for each value of the variable and each of all others
abbrev pub AreParts : VarId → ℤ → ℤ → ℤ → List Place → Type 0
AreParts var rest coefficient besides places = (value other : ℤ) → (rest +ℤ coefficient *ℤ value) +ℤ besides *ℤ other ≡ sum_where var value other places

module _ (var : VarId) (rest coefficient besides : ℤ) (places : List Place) (i : ℕ) (d place : Place) (inside : i < length places) (here : place ≡ get_or places i d) (so_far : AreParts var rest coefficient besides (take i places)) where
  parts-more : (rest' coefficient' besides' : ℤ) → ((value other : ℤ) → (rest' +ℤ coefficient' *ℤ value) +ℤ besides' *ℤ other ≡ ((rest +ℤ coefficient *ℤ value) +ℤ besides *ℤ other) +ℤ Product var value other place) → AreParts var rest' coefficient' besides' (take (i + 1) places)
  parts-more rest' coefficient' besides' step = λ value other.
      sum-more var value other places i d _ _ inside (so_far value other) (step value other ∙ ap (λ (p : Place). ((rest +ℤ coefficient *ℤ value) +ℤ besides *ℤ other) +ℤ Product var value other p) here)

  module _ (rest' coefficient' besides' : ℤ) where
    pub constant-more : (k : ℤ) → place.term ≡ Constant k → rest' ≡ rest +ℤ place.coefficient *ℤ k → coefficient' ≡ coefficient → besides' ≡ besides → AreParts var rest' coefficient' besides' (take (i + 1) places)
    constant-more k term rest_is coefficient_is besides_is = parts-more rest' coefficient' besides' (λ value other.
        let e : Product var value other place ≡ place.coefficient *ℤ k = ap (λ (t : Term). place.coefficient *ℤ term_where var value other t) term in
        let f = ap (λ (x : ℤ). x *ℤ value) coefficient_is in
        let g = ap (λ (x : ℤ). x *ℤ other) besides_is in
        omega (arith, ints))

    -- what a variable is multiplied with goes to its own coefficient, or to that of all others
    module _ (v : VarId) (term : place.term ≡ Variable v) (rest_is : rest' ≡ rest) where
      product-is : (value other : ℤ) (test : Bool) → nat_eq v.0 var.0 ≡ test → Product var value other place ≡ place.coefficient *ℤ cond test value other
      product-is value other test is = ap (λ (t : Term). place.coefficient *ℤ term_where var value other t) term ∙ ap (λ (b : Bool). place.coefficient *ℤ cond b value other) is

      pub coefficient-more : nat_eq v.0 var.0 ≡ true → coefficient' ≡ coefficient +ℤ place.coefficient → besides' ≡ besides → AreParts var rest' coefficient' besides' (take (i + 1) places)
      coefficient-more test coefficient_is besides_is = parts-more rest' coefficient' besides' (λ value other.
          let e : Product var value other place ≡ place.coefficient *ℤ value = product-is value other true test in
          let f = ap (λ (x : ℤ). x *ℤ value) coefficient_is ∙ plus_times coefficient place.coefficient value in
          let g = ap (λ (x : ℤ). x *ℤ other) besides_is in
          omega (arith, ints))

      pub besides-more : nat_eq v.0 var.0 ≡ false → coefficient' ≡ coefficient → besides' ≡ besides +ℤ place.coefficient → AreParts var rest' coefficient' besides' (take (i + 1) places)
      besides-more test coefficient_is besides_is = parts-more rest' coefficient' besides' (λ value other.
          let e : Product var value other place ≡ place.coefficient *ℤ other = product-is value other false test in
          let f = ap (λ (x : ℤ). x *ℤ value) coefficient_is in
          let g = ap (λ (x : ℤ). x *ℤ other) besides_is ∙ plus_times besides place.coefficient other in
          omega (arith, ints))

module _ (var : VarId) (rest coefficient besides : ℤ) (places : List Place) (i : ℕ) (all : length places ≤ i) (are : AreParts var rest coefficient besides (take i places)) where
  whole : AreParts var rest coefficient besides places
  whole = subst (AreParts var rest coefficient besides) (take_all i places all) are

  pub whole-sum : (value : ℤ) → rest +ℤ coefficient *ℤ value ≡ sum_where var value (pos 0) places
  whole-sum value = let e = whole value (pos 0) in omega (arith, ints)

  pub whole-besides : besides ≡ coefficient_besides var places
  whole-besides = let zero = whole (pos 0) (pos 0) in let one = whole (pos 0) (pos 1) in omega (arith, ints)

module _ (one two : VarId) where
  another-append : (xs ys : List Place) → another_of one two xs ≡ None → another_of one two (xs ++ ys) ≡ another_of one two ys
  another-append [] ys none = refl
  another-append (x ∷ xs) ys none = step (another_in one two x.term) (another_of one two xs) (another_of one two (xs ++ ys)) (another_of one two ys) none (another-append xs ys)
    where
      step : (first rest all last : Option VarId) → option_map_or (λ (v : VarId). Some v) first rest ≡ None → (rest ≡ None → all ≡ last) → option_map_or (λ (v : VarId). Some v) first all ≡ last
      step None rest all last h f = f h
      step (Some v) rest all last h f = absurd (cc)

  module _ (places : List Place) (i : ℕ) (d : Place) (inside : i < length places) (so_far : another_of one two (take i places) ≡ None) where
    pub another-more : another_in one two (get_or places i d).term ≡ None → another_of one two (take (i + 1) places) ≡ None
    another-more none =
        ap (another_of one two) (take_more places i d inside) ∙ another-append (take i places) (get_or places i d ∷ []) so_far ∙ ap (λ (o : Option VarId). option_map_or (λ (v : VarId). Some v) o None) none

    pub another-found : (v : VarId) → another_in one two (get_or places i d).term ≡ Some v → another_of one two places ≡ Some v
    another-found v found =
        ap (another_of one two) (sym (take-append-drop i places)) ∙ another-append (take i places) (drop i places) so_far ∙ ap (another_of one two) (drop_more places i d inside)
        ∙ ap (λ (o : Option VarId). option_map_or (λ (w : VarId). Some w) o (another_of one two (drop (i + 1) places))) found

-- ---- constraints with a form

no-element_form : (index : Term) (entries : List Term) (result : Term) (found : Form) → form_of (Element index entries result) ≡ Some found → ⊥
unfolding form_of
no-element_form index entries result found is = cc

-- what a constraint with a form decides is what the form gives
pub decided-form : (by : VarId) (value : ℤ) (c : Constraint) (found : Form) → form_of c ≡ Some found → form_value by value found ≡ decided_in by value c
decided-form by value (Element index entries result) found is = absurd (no-element_form index entries result found is)
decided-form by value c found is = sym (ap (option_and_then (form_value by value)) is)
