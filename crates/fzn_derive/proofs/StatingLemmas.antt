-- The sum that is held, as a constraint states it.
use Rattle.std.proofs.Common.{◌≡◌, ℕ, zero, suc, ◌+◌, ◌<◌, Bool, true, false, cond, not, List, [], ◌∷◌, ◌++◌, map, length, get_or, refl, sym, ap, ap₂, subst, ◌∙◌, inl, inr, arith, ℤ, pos, None, All}
use Rattle.std.specs.List.{filter, range_with_len, AllByRecursion}
use Rattle.std.specs.Ordering.{int_eq}
use Rattle.std.proofs.lemmas.Bool.{cases_Bool, not-false, false≢true, false_from_ne_true}
use Rattle.std.proofs.lemmas.Bool.Decides.{Decides-int_eq}
use Rattle.std.proofs.lemmas.List.FromFn.{length-map-range_with_len, get_or-map-range_with_len}
use Rattle.std.proofs.lemmas.List.Elements.{All-filter, All-map, All-contains, Contains-get_or, recursion_from_All, All-from_recursion}
use Rattle.fzn_domain.specs.Limits.{IsSmall}
use Rattle.fzn_values.specs.declared.term.Term.{Term}
use Rattle.fzn_values.specs.declared.term.Term.TheVariants.{Constant, Variable}
use Rattle.fzn_values.specs.declared.term.Place.{Place}
use Rattle.fzn_meaning.specs.declared.relation.Comparison.TheVariants.{AtMost}
use Rattle.fzn_meaning.specs.declared.constraint.Constraint.{Constraint}
use Rattle.fzn_meaning.specs.declared.constraint.Constraint.TheVariants.{Linear}
use Rattle.fzn_values.specs.Term.{number_in, weighted}
use Rattle.fzn_cited.specs.declared.multiple.Multiple.{Multiple}
use Rattle.fzn_derive.specs.declared.adder.Cell.{Cell}
use Rattle.fzn_derive.specs.declared.adder.Adder.{Adder}
use Rattle.fzn_cited.specs.declared.fault.DeriveFault.{DeriveFault}
use Rattle.fzn_cited.specs.declared.fault.DeriveFault.TheVariants.{NotDerived}
use Rattle.fzn_derive.specs.Merged.{whole, has_weight, merged}
use Rattle.fzn_derive.specs.Summed.{scaled_all, bound_left, IsStatable, IsSummed, IsUnstatable}
use Rattle.fzn_derive.specs.Room.{variables_in, blank, cell_of, ListsTouched, AreCounted, AreSummedUp, sum_place, held, IsSortedOnce}
use Rattle.fzn_derive.proofs.OrderLemmas.{has, rises, same_kept}

module _ (room : Adder) (places : List Place) (counted : AreCounted room places) where
  wholes : (n a : ℕ) → map (sum_place room) (range_with_len a n) ≡ map (whole places) (range_with_len (a + 1) n)
  wholes zero a = refl
  wholes (suc n) a = ap₂ (λ (p : Place) (ps : List Place). p ∷ ps) (ap (λ (x : ℤ). record { coefficient = x; term = Variable (record { 0 = a + 1 }) }) (counted a)) (wholes n (a + 1))

  pub held-merged : held room ≡ merged (variables_in room) places
  unfolding held merged
  held-merged = ap (filter has_weight) (wholes (variables_in room) 0)

weightless : (p : Place) → has_weight p ≡ false → p.coefficient ≡ pos 0
weightless p none = (Decides-int_eq p.coefficient (pos 0)).0 (not-false (int_eq p.coefficient (pos 0)) none)

blank_weightless : (room : Adder) (place : ℕ) → cell_of room place ≡ blank → has_weight (sum_place room place) ≡ false
blank_weightless room place is = ap (λ (c : Cell). not (int_eq c.sum (pos 0))) is

-- what is true of what is kept is true of what would be kept
kept_by : (P : Place → Type 0) (p : Place) (xs : List Place) (b : Bool) → has_weight p ≡ b → (AllByRecursion P (filter has_weight xs) → AllByRecursion (λ (q : Place). has_weight q ≡ true → P q) xs)
    → AllByRecursion P (cond b (p ∷ filter has_weight xs) (filter has_weight xs)) → AllByRecursion (λ (q : Place). has_weight q ≡ true → P q) (p ∷ xs)
kept_by P p xs true is rest all = (λ _. all.0, rest all.1)
kept_by P p xs false is rest all = (λ weighs. absurd (false≢true (sym is ∙ weighs)), rest all)

kept : (P : Place → Type 0) (xs : List Place) → AllByRecursion P (filter has_weight xs) → AllByRecursion (λ (p : Place). has_weight p ≡ true → P p) xs
kept P [] all = tt
kept P (p ∷ xs) all = kept_by P p xs (has_weight p) refl (kept P xs) all

module _ (room : Adder) (listed : ListsTouched room) where
  abbrev HasSmall : ℕ → Type 0
  HasSmall place = IsSmall (cell_of room place).sum

  abbrev AreSmall : Type 0
  AreSmall = All HasSmall room.touched.items

  each-small : AreSmall → (place : ℕ) → HasSmall place
  each-small small place = elim (listed.listed place) [
    | inl is ↦ subst (λ (c : Cell). IsSmall c.sum) (sym is) (omega arith)
    | inr one ↦ All-contains HasSmall room.touched.items place small one
  ]

  pub held-small : AreSmall → All (λ (p : Place). IsSmall p.coefficient) (held room)
  unfolding held
  held-small small =
      let P = λ (p : Place). IsSmall p.coefficient in
      let ns = range_with_len 0 (variables_in room) in
      All-filter has_weight P (map (sum_place room) ns) (All-map P (sum_place room) ns (λ k d inside. each-small small (get_or ns k d)))

  abbrev wide : List Place
  wide = map (sum_place room) (range_with_len 0 (variables_in room))

  small-at : All (λ (p : Place). has_weight p ≡ true → IsSmall p.coefficient) wide → (place : ℕ) → place < variables_in room → HasSmall place
  small-at all place inside =
      let e = get_or-map-range_with_len (sum_place room) 0 (variables_in room) place place (sum_place room place) inside (omega arith) in
      let here = subst (λ (p : Place). has_weight p ≡ true → IsSmall p.coefficient) e (all place (sum_place room place) (omega (arith, length-map-range_with_len (sum_place room) 0 (variables_in room)))) in
      elim (cases_Bool (has_weight (sum_place room place))) [
        | inl weighs ↦ here weighs
        | inr none ↦ subst IsSmall (sym (weightless (sum_place room place) none)) (omega arith)
      ]

  pub small-held : All (λ (p : Place). IsSmall p.coefficient) (held room) → AreSmall
  unfolding held
  small-held small = λ k d inside.
      small-at (All-from_recursion (λ (p : Place). has_weight p ≡ true → IsSmall p.coefficient) wide (kept (λ (p : Place). IsSmall p.coefficient) wide (recursion_from_All (λ (p : Place). IsSmall p.coefficient) (filter has_weight wide) small)))
      (get_or room.touched.items k d) (listed.inside k d inside)

  module _ (order : List ℕ) (ordered : IsSortedOnce room.touched.items order) where
    each-ordered : (P : ℕ → Type 0) → All P room.touched.items → All P order
    each-ordered P all = λ k d inside. All-contains P room.touched.items (get_or order k d) all (ordered.only (get_or order k d) (Contains-get_or order k d inside))

    pub order-inside : All (λ (place : ℕ). place < variables_in room) order
    order-inside = each-ordered (λ (place : ℕ). place < variables_in room) listed.inside

    pub order-small : AreSmall → All HasSmall order
    order-small small = each-ordered HasSmall small

    below : (n : ℕ) (xs : List ℕ) → AllByRecursion (λ (x : ℕ). x < n) xs → AllByRecursion (λ (x : ℕ). x < 0 + n) xs
    below n [] all = tt
    below n (x ∷ xs) all = let first = all.0 in (omega arith, below n xs all.1)

    pub order-held : filter has_weight (map (sum_place room) order) ≡ held room
    unfolding held
    order-held =
        let n = variables_in room in
        same_kept (sum_place room) n 0 order
        (rises 0 order (λ k d inside. omega arith) ordered.rising)
        (below n order (recursion_from_All (λ (place : ℕ). place < n) order order-inside))
        (λ place from to. elim (listed.listed place) [
          | inl is ↦ inl (blank_weightless room place is)
          | inr one ↦ let there = ordered.keeps place one in inr (has order place there.0 there.1 there.2)
        ])

-- ---- lists side by side

pub weighted-push : (numbers terms : List Term) (number term : Term) → length numbers ≡ length terms → weighted (numbers ++ number ∷ []) (terms ++ term ∷ []) ≡ weighted numbers terms ++ record { coefficient = number_in number; term = term } ∷ []
weighted-push [] [] number term even = refl
weighted-push [] (t ∷ terms) number term even = absurd (omega arith)
weighted-push (n ∷ numbers) [] number term even = absurd (omega arith)
weighted-push (n ∷ numbers) (t ∷ terms) number term even = ap (λ (ps : List Place). record { coefficient = number_in n; term = t } ∷ ps) (weighted-push numbers terms number term (omega arith))

-- what is pushed onto two lists is the next place of the sum
pub pushed-place : (room : Adder) (place : ℕ) (x : ℤ) (numbers terms new_numbers new_terms : List Term) → x ≡ (cell_of room place).sum → (x ≡ pos 0 → ⊥) → length numbers ≡ length terms
    → new_numbers ≡ numbers ++ Constant x ∷ [] → new_terms ≡ terms ++ Variable (record { 0 = place + 1 }) ∷ []
    → weighted new_numbers new_terms ≡ weighted numbers terms ++ cond (has_weight (sum_place room place)) (sum_place room place ∷ []) []
pushed-place room place x numbers terms new_numbers new_terms is some even n t =
    let weighs : int_eq (cell_of room place).sum (pos 0) ≡ false = false_from_ne_true (int_eq (cell_of room place).sum (pos 0)) (λ e. some (is ∙ (Decides-int_eq (cell_of room place).sum (pos 0)).0 e)) in
    ap₂ weighted n t ∙ weighted-push numbers terms (Constant x) (Variable (record { 0 = place + 1 })) even
    ∙ ap (λ (c : ℤ). weighted numbers terms ++ record { coefficient = c; term = Variable (record { 0 = place + 1 }) } ∷ []) is
    ∙ ap (λ (b : Bool). weighted numbers terms ++ cond (not b) (sum_place room place ∷ []) []) (sym weighs)

-- ---- what comes of it

pub summed-from : (given : List Constraint) (room : Adder) (multiples : List Multiple) (bound : ℤ) (constraint : Constraint) → AreSummedUp given room multiples bound → IsStatable (held room) bound → constraint ≡ Linear (held room) AtMost bound None → IsSummed given (variables_in room) multiples constraint
summed-from given room multiples bound constraint added statable is =
    let same = held-merged room (scaled_all given multiples) added.counted in record {
      addable = added.addable;
      statable = subst (λ (sum : List Place). IsStatable sum (bound_left given multiples)) same (subst (IsStatable (held room)) added.bound_is statable);
      is = is ∙ ap₂ (λ (sum : List Place) (x : ℤ). Linear sum AtMost x None) same added.bound_is;
    }

pub too_large-from : (given : List Constraint) (room : Adder) (multiples : List Multiple) (bound : ℤ) (fault : DeriveFault) → AreSummedUp given room multiples bound → (IsStatable (held room) bound → ⊥) → fault ≡ NotDerived → IsUnstatable given (variables_in room) multiples fault
too_large-from given room multiples bound fault added large is =
    let same = held-merged room (scaled_all given multiples) added.counted in record {
      addable = added.addable;
      too_large = λ statable. large (subst (IsStatable (held room)) (sym added.bound_is) (subst (λ (sum : List Place). IsStatable sum (bound_left given multiples)) (sym same) statable));
      fault_is = is;
    }
