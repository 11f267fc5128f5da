-- A sum that is added term by term, and sums constraint by constraint.
use Rattle.std.proofs.Common.{◌≡◌, ℕ, ◌+◌, ◌<◌, ◌≤◌, ◌%◌, Bool, true, false, cond, List, [], ◌∷◌, ◌++◌, length, get_or, take, refl, sym, ap, subst, ◌∙◌, arith, Option, Some, None, IsSomeAnd}
use Rattle.std.specs.Option.{option_and_then}
use Rattle.std.specs.List.{All, cons_option}
use Rattle.std.proofs.lemmas.List.{append-nil, append_assoc, take_more, take_all, flat_map_more}
use Rattle.std.proofs.lemmas.List.Elements.{All-more, All-nil, filter_map-append}
use Rattle.std.proofs.lemmas.List.Sums.{sum_by_push, sum_by-append}
use Rattle.fzn_domain.specs.IntSet.{IntSet}
use Rattle.fzn_values.specs.declared.term.Term.{Term}
use Rattle.fzn_meaning.specs.declared.constraint.Constraint.{Constraint}
use Rattle.fzn_meaning.specs.Meaning.{IsBoolean}
use Rattle.fzn_cited.specs.Cited.{constraint_at, IsCitedAs}
use Rattle.fzn_derive.specs.Parity.{Parity, parity_of, SaysParity, parities, terms_together, odd_together, variable_number, variable_numbers, is_one, ones_in, remainder_of, IsSumAdded, IsConstraintAdded, AreAllAdded}

-- the terms with their sum said to be odd or even
abbrev pub summed : List Term → Bool → Parity
summed terms odd = record { terms = terms; odd = odd }

remainder_alone : (odd : Bool) → remainder_of odd ≡ (remainder_of odd + 0) % 2
remainder_alone true = refl
remainder_alone false = refl

-- no term
pub sum_none : (declared : List IntSet) (before : List ℕ) (odd : Bool) → IsSumAdded declared before before (summed [] odd) odd
sum_none declared before odd = record {
  are_boolean = All-nil (IsBoolean declared);
  numbers = sym (append-nil before);
  remainder = remainder_alone odd;
}

-- one more term
pub sum_more : (declared : List IntSet) (before numbers next : List ℕ) (terms : List Term) (i : ℕ) (odd is_odd one next_odd : Bool) (d : Term) → i < length terms → IsSumAdded declared before numbers (summed (take i terms) odd) is_odd → IsBoolean declared (get_or terms i d) → one ≡ is_one (get_or terms i d) → next ≡ numbers ++ variable_numbers (get_or terms i d ∷ []) → remainder_of next_odd ≡ (remainder_of is_odd + remainder_of one) % 2 → IsSumAdded declared before next (summed (take (i + 1) terms) odd) next_odd
sum_more declared before numbers next terms i odd is_odd one next_odd d inside h boolean is_one_is added sum = record {
  are_boolean = All-more (IsBoolean declared) terms i d inside h.are_boolean boolean;
  numbers =
      added ∙ ap (λ (ns : List ℕ). ns ++ variable_numbers (get_or terms i d ∷ [])) h.numbers
      ∙ append_assoc before (variable_numbers (take i terms)) (variable_numbers (get_or terms i d ∷ []))
      ∙ ap (λ (ns : List ℕ). before ++ ns) (sym (ap variable_numbers (take_more terms i d inside) ∙ filter_map-append variable_number (take i terms) (get_or terms i d ∷ [])));
  remainder =
      let ones : ones_in (take (i + 1) terms) ≡ ones_in (take i terms) + cond (is_one (get_or terms i d)) 1 0 = ap ones_in (take_more terms i d inside) ∙ sum_by_push (λ (term : Term). cond (is_one term) 1 0) (take i terms) (get_or terms i d) in
      by_numbers (remainder_of next_odd) (remainder_of is_odd) (remainder_of one) (remainder_of odd) (ones_in (take i terms)) (ones_in (take (i + 1) terms)) sum h.remainder
      (ones ∙ ap (λ (b : Bool). ones_in (take i terms) + remainder_of b) (sym is_one_is));
}
  where
    by_numbers : (r a b o n m : ℕ) → r ≡ (a + b) % 2 → a ≡ (o + n) % 2 → m ≡ n + b → r ≡ (o + m) % 2
    by_numbers r a b o n m e f g = omega arith

-- all terms
pub sum_all : (declared : List IntSet) (before numbers : List ℕ) (terms : List Term) (i : ℕ) (odd is_odd : Bool) → length terms ≤ i → IsSumAdded declared before numbers (summed (take i terms) odd) is_odd → IsSumAdded declared before numbers (summed terms odd) is_odd
sum_all declared before numbers terms i odd is_odd end h = subst (λ (ts : List Term). IsSumAdded declared before numbers (summed ts odd) is_odd) (take_all i terms end) h

-- ---- constraint by constraint

pub all_none : (given : List Constraint) (declared : List IntSet) → AreAllAdded given declared [] [] false
all_none given declared = record {
  cited = All-nil (IsCitedAs (SaysParity declared) given);
  numbers = refl;
  remainder = refl;
}

pub added-says : (declared : List IntSet) (before after : List ℕ) (odd : Bool) (given : List Constraint) (id : ℕ) → IsCitedAs (λ constraint. IsConstraintAdded declared before after constraint odd) given id → IsCitedAs (SaysParity declared) given id
added-says declared before after odd given id = by_constraint (constraint_at given id)
  where
    by_sum : (found : Option Parity) → IsSomeAnd found (λ sum. IsSumAdded declared before after sum odd) → IsSomeAnd found (λ sum. All (IsBoolean declared) sum.terms)
    by_sum None h = h
    by_sum (Some sum) h = h.are_boolean

    by_constraint : (found : Option Constraint) → IsSomeAnd found (λ constraint. IsConstraintAdded declared before after constraint odd) → IsSomeAnd found (SaysParity declared)
    by_constraint None h = h
    by_constraint (Some c) h = by_sum (parity_of c) h

-- the sums of these, and one more
more_together : (declared : List IntSet) (sums : List Parity) (sum : Parity) (numbers next : List ℕ) (is_odd one next_odd : Bool) → numbers ≡ variable_numbers (terms_together sums) → remainder_of is_odd ≡ (odd_together sums + ones_in (terms_together sums)) % 2 → IsSumAdded declared numbers next sum one → remainder_of next_odd ≡ (remainder_of is_odd + remainder_of one) % 2
    → (next ≡ variable_numbers (terms_together (sums ++ sum ∷ []))) × (remainder_of next_odd ≡ (odd_together (sums ++ sum ∷ []) + ones_in (terms_together (sums ++ sum ∷ []))) % 2)
more_together declared sums sum numbers next is_odd one next_odd numbers_are remainder_is h xor =
    let terms : terms_together sums ++ sum.terms ≡ terms_together (sums ++ sum ∷ []) = flat_map_more (λ (parity : Parity). parity.terms) [] sums sum in
    let ones : ones_in (terms_together (sums ++ sum ∷ [])) ≡ ones_in (terms_together sums) + ones_in sum.terms = ap ones_in (sym terms) ∙ sum_by-append (λ (term : Term). cond (is_one term) 1 0) (terms_together sums) sum.terms in
    let odds : odd_together (sums ++ sum ∷ []) ≡ odd_together sums + cond sum.odd 1 0 = sum_by_push (λ (parity : Parity). cond parity.odd 1 0) sums sum in
    let here = h.remainder in (
      h.numbers ∙ ap (λ (ns : List ℕ). ns ++ variable_numbers sum.terms) numbers_are ∙ sym (filter_map-append variable_number (terms_together sums) sum.terms) ∙ ap variable_numbers terms,
      omega arith,
    )

pub all_more : (given : List Constraint) (declared : List IntSet) (ids : List ℕ) (i : ℕ) (numbers next : List ℕ) (is_odd one next_odd : Bool) → i < length ids → AreAllAdded given declared (take i ids) numbers is_odd → IsCitedAs (λ constraint. IsConstraintAdded declared numbers next constraint one) given (get_or ids i 0) → remainder_of next_odd ≡ (remainder_of is_odd + remainder_of one) % 2 → AreAllAdded given declared (take (i + 1) ids) next next_odd
all_more given declared ids i numbers next is_odd one next_odd inside h added xor = record {
  cited = All-more (IsCitedAs (SaysParity declared) given) ids i 0 inside h.cited (added-says declared numbers next one given (get_or ids i 0) added);
  numbers = both.0;
  remainder = both.1;
}
  where
    by_sum : (found : Option Parity) → IsSomeAnd found (λ sum. IsSumAdded declared numbers next sum one) → (next ≡ variable_numbers (terms_together (parities given (take i ids) ++ cons_option found []))) × (remainder_of next_odd ≡ (odd_together (parities given (take i ids) ++ cons_option found []) + ones_in (terms_together (parities given (take i ids) ++ cons_option found []))) % 2)
    by_sum None added = absurd added
    by_sum (Some sum) added = more_together declared (parities given (take i ids)) sum numbers next is_odd one next_odd h.numbers h.remainder added xor

    by_constraint : (found : Option Constraint) → IsSomeAnd found (λ constraint. IsConstraintAdded declared numbers next constraint one) → (next ≡ variable_numbers (terms_together (parities given (take i ids) ++ cons_option (option_and_then parity_of found) []))) × (remainder_of next_odd ≡ (odd_together (parities given (take i ids) ++ cons_option (option_and_then parity_of found) []) + ones_in (terms_together (parities given (take i ids) ++ cons_option (option_and_then parity_of found) []))) % 2)
    by_constraint None added = absurd added
    by_constraint (Some c) added = by_sum (parity_of c) added

    whole : parities given (take (i + 1) ids) ≡ parities given (take i ids) ++ parities given (get_or ids i 0 ∷ [])
    whole = ap (parities given) (take_more ids i 0 inside) ∙ filter_map-append (λ (id : ℕ). option_and_then parity_of (constraint_at given id)) (take i ids) (get_or ids i 0 ∷ [])

    both : (next ≡ variable_numbers (terms_together (parities given (take (i + 1) ids)))) × (remainder_of next_odd ≡ (odd_together (parities given (take (i + 1) ids)) + ones_in (terms_together (parities given (take (i + 1) ids)))) % 2)
    both = subst (λ (all : List Parity). (next ≡ variable_numbers (terms_together all)) × (remainder_of next_odd ≡ (odd_together all + ones_in (terms_together all)) % 2)) (sym whole) (by_constraint (constraint_at given (get_or ids i 0)) added)

pub all_all : (given : List Constraint) (declared : List IntSet) (ids : List ℕ) (i : ℕ) (numbers : List ℕ) (is_odd : Bool) → length ids ≤ i → AreAllAdded given declared (take i ids) numbers is_odd → AreAllAdded given declared ids numbers is_odd
all_all given declared ids i numbers is_odd end h = subst (λ (some : List ℕ). AreAllAdded given declared some numbers is_odd) (take_all i ids end) h
