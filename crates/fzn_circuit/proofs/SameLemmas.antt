-- When no two successors are the same.
use Rattle.std.proofs.Common.{◌≡◌, ◌≢◌, ℕ, ◌<◌, List, [], ◌∷◌, length, get_or, ap, sym, subst, ◌∙◌, arith, false, ℤ, pos, All}
use Rattle.std.proofs.lemmas.Int.{ints}
use Rattle.std.proofs.lemmas.List.{get_or_default}
use Rattle.std.proofs.lemmas.List.Elements.{All-get_or, All-cons, All-nil}
use Rattle.std.specs.Ordering.{int_eq}
use Rattle.fzn_domain.specs.IntSet.{IntSet}
use Rattle.fzn_domain.specs.Limits.{IsInLimits}
use Rattle.fzn_domain.specs.Narrow.{IsWithin, AllFixed}
use Rattle.fzn_values.specs.declared.term.Term.{Term}
use Rattle.fzn_values.specs.declared.term.Term.TheVariants.{Constant}
use Rattle.fzn_values.specs.Term.{IsTerm, term_value, values_of}
use Rattle.fzn_values.proofs.CallerLemmas.{length-values_of, get_or-values_of}
use Rattle.fzn_rules.specs.declared.rule.Rule.TheVariants.{Hall}
use Rattle.fzn_propagator.specs.Inference.{IsHint, HasWritableHints}
use Rattle.fzn_sets.proofs.CallerLemmas.{MayBe-term_value}
use Rattle.fzn_sets.specs.Terms.{IsFixedTo, least_value}
use Rattle.fzn_terms.proofs.FixedLemmas.{fixed_to}
use Rattle.fzn_circuit.specs.Circuits.{HaveNoCommonValue, AreDifferent, HasOpenSuccessor, owner_of}

pub hall_hints : (v : ℤ) → IsInLimits v → HasWritableHints (Hall v v)
hall_hints v limits =
    let hint : IsHint v = (omega (arith, ints, limits.0), omega (arith, ints, limits.1)) in
    All-cons IsHint v (v ∷ []) hint (All-cons IsHint v [] hint (All-nil IsHint))

int_eq_of : (x y : ℤ) → y ≡ x → int_eq y x ≡ false → ⊥
int_eq_of x y e h = grind (arith, ints)

-- the value of a successor, where each variable has one
value_is : (sets : List IntSet) (successors : List Term) → All (IsTerm (length sets)) successors → (values : List ℤ) → IsWithin sets values → AllFixed sets → (k : ℕ) → k < length successors → IsFixedTo sets (get_or successors k (Constant (pos 0))) (get_or (values_of values successors) k (pos 0))
value_is sets successors fit values within fixed k below =
    let d : Term = Constant (pos 0) in
    subst (IsFixedTo sets (get_or successors k d)) (sym (get_or-values_of values successors k (pos 0) d below))
    (fixed_to sets values within fixed (get_or successors k d) (All-get_or (IsTerm (length sets)) successors k d below fit))

module _ (sets : List IntSet) (successors : List Term) where
  pub apart_different : ((i j : ℕ) → i < length successors → HaveNoCommonValue sets successors i j) → AreDifferent sets successors
  apart_different apart fit values within fixed i j d before below same =
      let len = length-values_of values successors in
      let lt_i : i < length successors = omega arith in
      let lt_j : j < length successors = omega arith in
      let x = term_value values (get_or successors i (Constant (pos 0))) in
      let y = term_value values (get_or successors j (Constant (pos 0))) in
      let is : y ≡ x = sym (get_or-values_of values successors j d (Constant (pos 0)) lt_j) ∙ sym same ∙ get_or-values_of values successors i d (Constant (pos 0)) lt_i in
      let fits_i = All-get_or (IsTerm (length sets)) successors i (Constant (pos 0)) lt_i fit in
      let fits_j = All-get_or (IsTerm (length sets)) successors j (Constant (pos 0)) lt_j fit in
      let may = MayBe-term_value sets values (get_or successors j (Constant (pos 0))) within fits_j in
      let other : i ≢ j = omega arith in
      int_eq_of x y is (apart i j lt_i (Constant (pos 0)) x other lt_i lt_j (fixed_to sets values within fixed (get_or successors i (Constant (pos 0))) fits_i) y may)

  -- a place is found by its value
  pub owned_different : (owners : List ℕ) → ((k : ℕ) → k < length successors → owner_of owners (least_value sets (get_or successors k (Constant (pos 0)))) ≡ k) → AreDifferent sets successors
  owned_different owners owned fit values within fixed i j d before below same =
      let xs = values_of values successors in
      let len = length-values_of values successors in
      let lt_i : i < length successors = omega arith in
      let lt_j : j < length successors = omega arith in
      let here = ap (owner_of owners) (value_is sets successors fit values within fixed i lt_i).0 in
      let there = ap (owner_of owners) (value_is sets successors fit values within fixed j lt_j).0 in
      let like : get_or xs i (pos 0) ≡ get_or xs j (pos 0) = get_or_default xs i (pos 0) d (omega arith) ∙ same ∙ get_or_default xs j d (pos 0) below in
      let one : i ≡ j = sym (owned i lt_i) ∙ here ∙ ap (owner_of owners) like ∙ sym there ∙ owned j lt_j in
      omega (arith, one, before)

  pub open_different : HasOpenSuccessor sets successors → AreDifferent sets successors
  open_different some fit values within fixed i j d before below same =
      absurd (some.2 (get_or (values_of values successors) some.0 (pos 0)) (value_is sets successors fit values within fixed some.0 some.1))
