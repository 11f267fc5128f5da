-- The rule `hall`: on sets where it is met, no choice of one value from each set meets the constraint.
use Rattle.std.proofs.Common.{◌≡◌, ◌+◌, ◌≤◌, List, [], ◌∷◌, Bool, true, false, ◌&&◌, cond, length, refl, ◌∙◌, sym, inl, inr, arith, ℤ, ◌≤ℤ◌, int_le}
use Rattle.std.specs.List.{count_by}
use Rattle.std.proofs.lemmas.Int.{ints}
use Rattle.std.proofs.lemmas.List.Sums.{sum_by-cons}
use Rattle.fzn_domain.specs.IntSet.{IntSet}
use Rattle.fzn_domain.specs.Narrow.{IsWithin}
use Rattle.fzn_values.specs.declared.term.Term.{Term}
use Rattle.fzn_meaning.specs.declared.constraint.Constraint.{Constraint}
use Rattle.fzn_meaning.specs.declared.constraint.Constraint.TheVariants.{AllDifferent, Circuit, Inverse}
use Rattle.fzn_values.specs.Term.{term_value, values_of}
use Rattle.fzn_values.specs.AllDifferent.{IsAllDifferent}
use Rattle.fzn_meaning.specs.Meaning.{Meets, IsWellFormedConstraint}
use Rattle.fzn_values.proofs.CallerLemmas.{circuit-different}
use Rattle.fzn_sets.specs.Terms.{least_value, greatest_value}
use Rattle.fzn_rules.specs.Hall.{lies_within, HasExcess, IsHallMet}
use Rattle.fzn_rules.proofs.PlacesLemmas.{is_from_to, different-from_to, inverse-different, inverse-flip}
use Rattle.fzn_sets.proofs.CallerLemmas.{length-values_of, term_between}

value_within : (low high least greatest x : ℤ) → least ≤ℤ x → x ≤ℤ greatest → (int_le low least && int_le greatest high) ≡ true → is_from_to low high x ≡ true
value_within low high least greatest x l g h = grind (arith, ints)

-- the places that lie within low to high have their values there
count-le : (sets : List IntSet) (values : List ℤ) (low high : ℤ) (places : List Term) → IsWithin sets values → count_by (lies_within sets low high) places ≤ count_by (is_from_to low high) (values_of values places)
count-le sets values low high [] within = omega arith
count-le sets values low high (place ∷ places) within =
    let between = term_between sets values place within in
    let inside = value_within low high (least_value sets place) (greatest_value sets place) (term_value values place) between.0 between.1 in
    rw (sum_by-cons (λ (t : Term). cond (lies_within sets low high t) 1 0) place places, sum_by-cons (λ (x : ℤ). cond (is_from_to low high x) 1 0) (term_value values place) (values_of values places))
    (one_more (lies_within sets low high place) (is_from_to low high (term_value values place)) inside (count-le sets values low high places within))
  where
    one_more : (b c : Bool) → (b ≡ true → c ≡ true) → count_by (lies_within sets low high) places ≤ count_by (is_from_to low high) (values_of values places) → cond b 1 0 + count_by (lies_within sets low high) places ≤ cond c 1 0 + count_by (is_from_to low high) (values_of values places)
    one_more true true f le = omega arith
    one_more true false f le = absurd (let c = f refl in cc)
    one_more false true f le = omega arith
    one_more false false f le = omega arith

excess_sound : (sets : List IntSet) (values : List ℤ) (low high : ℤ) (places : List Term) → HasExcess sets low high places → IsWithin sets values → IsAllDifferent (values_of values places) → ⊥
excess_sound sets values low high places met within different =
    let counted = count-le sets values low high places within in
    let most = different-from_to low high (values_of values places) different met.in_order in
    omega (arith, ints, met.excess)

pub hall_sound : (constraint : Constraint) (sets : List IntSet) (low high : ℤ) (values : List ℤ) → IsWellFormedConstraint (length sets) constraint → IsHallMet constraint sets low high → IsWithin sets values → Meets constraint values → ⊥
unfolding IsHallMet IsWellFormedConstraint Meets
hall_sound (AllDifferent places) sets low high values formed met within meets = excess_sound sets values low high places met within meets
hall_sound (Circuit successors) sets low high values formed met within meets = excess_sound sets values low high successors met within (circuit-different (values_of values successors) meets)
hall_sound (Inverse forward backward) sets low high values formed met within meets =
    let same : length (values_of values backward) ≡ length (values_of values forward) = length-values_of values backward ∙ formed.2 ∙ sym (length-values_of values forward) in
    elim met [
      | inl there ↦ excess_sound sets values low high forward there within (inverse-different (values_of values forward) (values_of values backward) same meets)
      | inr there ↦ excess_sound sets values low high backward there within (inverse-different (values_of values backward) (values_of values forward) (sym same) (inverse-flip (values_of values forward) (values_of values backward) meets))
    ]
hall_sound _ sets low high values formed met within meets = met
